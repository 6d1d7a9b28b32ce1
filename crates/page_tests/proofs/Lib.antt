mod TestLemmas
