-- Messages put into the process of a store, and taken out of it.
use Rattle.std.proofs.Common.{◌≡◌, ◌∙◌, refl, ap, sym, true, ℕ, List, [], ◌∷◌, ◌++◌, None, Ok, arith}
use Rattle.std.specs.Prelude.{ℤ, pos, negsuc}
use Rattle.std.specs.List.{list_all}
use Rattle.std.specs.Int.{w32, cast_unsigned, bytes_low_first}
use Rattle.std.specs.Option.{option_map_or}
use Rattle.std.specs.FinMap.{insert}
use Rattle.std.proofs.lemmas.Int.{ints}
use Rattle.lu_spec.specs.Then.{then_do}
use Rattle.lu_spec.specs.LittleEndian.{little_endian}
use Rattle.lu_base.specs.declared.message.Message.{Message}
use Rattle.lu_base.specs.Sending.{Sent}
use Rattle.c_types.specs.declared.parts.IntKind.TheVariants as K
use Rattle.src_tree.specs.declared.value.Store.{Store}
use Rattle.src_tree.specs.declared.program.Program.{Program}
use Rattle.src_meaning.specs.Delivery.{with_no_messages}
use Rattle.src_meaning.specs.Integers.{is_held, residue}
use Rattle.src_meaning.specs.Objects.{store_with, next_address}
use Rattle.src_meaning.specs.Sending.{m_out, message_value, zero_message}
use Rattle.src_meaning.specs.Store.{IsStore}
use Rattle.src_meaning.specs.Valid.{IsValid}
use Rattle.src_meaning.proofs.LayoutLengths.{and_left, and_right}
use Rattle.bm_objects.specs.declared.row.Row.{Row}
use Rattle.bm_code.specs.Calls.{with_content}
use Rattle.bm_code.specs.Process.{Activity, Idle}
use Rattle.bm_cpu.specs.Words.{word_bytes, words_bytes}
use Rattle.cg_server.specs.Messages as machine
use Rattle.cg_state.specs.Represents.{content_of, rows_of, process_of}
use Rattle.cg_state.proofs.Words.{held_pos, held_neg}
use Rattle.cg_sim_store.specs.Messages.{IsMessage, ints_bytes, message_bytes, PutsMessage}
use Rattle.cg_sim_store.proofs.Messages.{take_messages}

-- an int's bytes, as the server writes them
word_is : (z : ℤ) → is_held K.Int z ≡ true → word_bytes z ≡ little_endian 4 (residue K.Int z)
unfolding little_endian
word_is z h = ap (bytes_low_first 0 4) (bits z h)
  where
    bits : (z : ℤ) → is_held K.Int z ≡ true → cast_unsigned w32 z ≡ residue K.Int z
    bits (pos n) h = let b = held_pos K.Int n h in omega (arith, ints, b)
    bits (negsuc n) h = let b = held_neg K.Int n h in omega (arith, ints, b)

words_are : (zs : List ℤ) → list_all (is_held K.Int) zs ≡ true → words_bytes zs ≡ ints_bytes zs
words_are [] h = refl
words_are (z ∷ zs) h =
    let one = word_is z (and_left (is_held K.Int z) (list_all (is_held K.Int) zs) h) in
    let rest = words_are zs (and_right (is_held K.Int z) (list_all (is_held K.Int) zs) h) in
    ap (λ l. l ++ words_bytes zs) one ∙ ap (λ l. little_endian 4 (residue K.Int z) ++ l) rest

pub same_message_bytes : (m : Message) → IsMessage m → machine.message_bytes m ≡ message_bytes m
same_message_bytes m is =
    ap (λ l. l ++ words_bytes (m.kind ∷ m.arg)) (word_is m.source is.source)
    ∙ (ap (λ l. little_endian 4 (residue K.Int m.source) ++ (l ++ words_bytes m.arg)) (word_is m.kind is.kind)
    ∙ ap (λ l. little_endian 4 (residue K.Int m.source) ++ (little_endian 4 (residue K.Int m.kind) ++ l)) (words_are m.arg is.args))

pub zero_is : IsMessage zero_message
zero_is = record { source = refl; kind = refl; args = refl; six = refl }

zero_bytes : machine.no_message ≡ message_bytes zero_message
unfolding little_endian
zero_bytes = refl

module _ (p : Program) (s : Store) (k : ℕ) (m : Message) (puts : PutsMessage p s k m) where
  -- the bytes put by the server
  pub put_content : machine.with_bytes (rows_of p s) k (message_bytes m) (content_of p.types s) ≡ content_of p.types puts.next
  put_content =
      ap (λ o. option_map_or (λ (r : Row). insert (content_of p.types s) r.addr (message_bytes m)) o (content_of p.types s)) puts.at ∙ puts.content

  pub put_process : (sends : List Sent) (a : Activity) (t : ℕ) → with_content (process_of p s sends a t) (content_of p.types puts.next) ≡ process_of p puts.next sends a t
  put_process sends a t =
      ap (λ r. record { content = content_of p.types puts.next; rows = r; next = next_address p.types s; outbox = sends; activity = a; spare = t }) (sym puts.rows)
      ∙ ap (λ n. record { content = content_of p.types puts.next; rows = rows_of p puts.next; next = n; outbox = sends; activity = a; spare = t }) (sym puts.last)

-- the messages of a store at zero
pub record Cleared (p : Program) (s : Store) (sends : List Sent) : Type 0 where
  pub next : Store
  pub no_messages : with_no_messages s ≡ Ok next
  pub is_store : IsStore p next
  pub process : with_content (process_of p s sends (Idle None) 0) (machine.without_messages (rows_of p s) (content_of p.types s)) ≡ process_of p next sends (Idle None) 0

module _ (p : Program) (valid : IsValid p) (s : Store) (ok : IsStore p s) where
  abbrev first : PutsMessage p s 0 zero_message
  first = take_messages p valid s ok 0 (omega arith) zero_message zero_is

  abbrev last : PutsMessage p first.next 1 zero_message
  last = take_messages p valid first.next first.store 1 (omega arith) zero_message zero_is

  pub cleared : (sends : List Sent) → Cleared p s sends
  cleared sends =
      let one : machine.with_bytes (rows_of p s) 0 machine.no_message (content_of p.types s) ≡ content_of p.types first.next = ap (λ b. machine.with_bytes (rows_of p s) 0 b (content_of p.types s)) zero_bytes ∙ put_content p s 0 zero_message first in
      let two : machine.with_bytes (rows_of p first.next) 1 machine.no_message (content_of p.types first.next) ≡ content_of p.types last.next = ap (λ b. machine.with_bytes (rows_of p first.next) 1 b (content_of p.types first.next)) zero_bytes ∙ put_content p first.next 1 zero_message last in
      let both : machine.without_messages (rows_of p s) (content_of p.types s) ≡ content_of p.types last.next = ap (machine.with_bytes (rows_of p s) 1 machine.no_message) one ∙ (ap (λ r. machine.with_bytes r 1 machine.no_message (content_of p.types first.next)) (sym first.rows) ∙ two) in
      record {
        next = last.next;
        no_messages = ap (λ r. then_do r (λ next. store_with next m_out (message_value zero_message))) first.is ∙ last.is;
        is_store = last.store;
        process = ap (with_content (process_of p s sends (Idle None) 0)) both
            ∙ (ap (λ x. with_content x (content_of p.types last.next)) (put_process p s 0 zero_message first sends (Idle None) 0) ∙ put_process p first.next 1 zero_message last sends (Idle None) 0);
      }
