pub mod AddressLemmas
