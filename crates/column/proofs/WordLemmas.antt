-- Lists of numbers that fit a word.
use Rattle.std.proofs.Common.{◌≡◌, ℕ, ◌^◌, ◌<◌, Bool, true, ltb, List}
use Rattle.std.specs.List.{AllByRecursion, list_all}
use Rattle.std.proofs.ByRecursion.{All-weaker}
use Rattle.std.proofs.lemmas.Bool.{ltb-true, lt-ltb}
use Rattle.column.specs.KindLemmas.{all_from_list_all, list_all_from_all}

abbrev pub is_word : ℕ → Bool
is_word x = ltb x (2 ^ 64)

pub all_words : (xs : List ℕ) → list_all is_word xs ≡ true → AllByRecursion (λ x. x < 2 ^ 64) xs
all_words xs e = All-weaker (λ x. is_word x ≡ true) (λ x. x < 2 ^ 64) (λ x h. ltb-true x (2 ^ 64) h) xs (all_from_list_all is_word xs e)

pub list_all-words : (xs : List ℕ) → AllByRecursion (λ x. x < 2 ^ 64) xs → list_all is_word xs ≡ true
list_all-words xs h = list_all_from_all is_word xs (All-weaker (λ x. x < 2 ^ 64) (λ x. is_word x ≡ true) (λ x l. lt-ltb x (2 ^ 64) l) xs h)
