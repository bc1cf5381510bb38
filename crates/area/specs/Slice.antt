-- A slice: words, and how many of their bytes count. A word is eight bytes, the lowest first.
use Rattle.std.specs.Prelude.{◌≡◌, ℕ, ◌+◌, ◌*◌, ◌/◌, ◌^◌, ◌<◌, cond, List, [], ◌∷◌, map, length, take, drop, Some, None, Option, nat_le}
use Rattle.std.specs.List.{flat_map, AllByRecursion}
use Rattle.area.specs.Digits.{number, digits, chunks}

pub record Slice : Type 0 where
  pub words : List ℕ
  pub bytes : ℕ

-- the words that n bytes take
abbrev pub words_for : ℕ → ℕ
words_for n = (n + 7) / 8

-- a slice starts at a multiple of 8
abbrev pub round_up : ℕ → ℕ
round_up n = 8 * words_for n

-- the bytes of words
abbrev pub spill : List ℕ → List ℕ
spill = flat_map (digits 256 8)

-- the words of bytes, the last filled up with zeros
abbrev pub pack : List ℕ → List ℕ
pack bs = map (number 256) (chunks 8 (words_for (length bs)) bs)

-- the slice of these bytes, and the slice of whole words
abbrev pub of_bytes : List ℕ → Slice
of_bytes bs = record { words = pack bs; bytes = length bs }

abbrev pub of_words : List ℕ → Slice
of_words ws = record { words = ws; bytes = 8 * length ws }

-- the bytes that count
abbrev pub contents : Slice → List ℕ
contents s = take s.bytes (spill s.words)

-- words below 2^64, and as many as the bytes take: w words for 8w - 7 to 8w bytes, and none for none
abbrev pub WellFormed : Slice → Type 0
WellFormed s = AllByRecursion (λ w. w < 2 ^ 64) s.words × (length s.words ≡ words_for s.bytes)

-- the bytes of the last word that do not count are 0
abbrev pub ZeroPadded : Slice → Type 0
ZeroPadded s = AllByRecursion (λ b. b ≡ 0) (drop s.bytes (spill s.words))

-- how many words slices have together
abbrev pub weight : List Slice → ℕ
weight [] = 0
weight (s ∷ ss) = length s.words + weight ss

-- the word that eight bytes write from a place on, if they are all there
abbrev pub join_at : List ℕ → ℕ → Option ℕ
join_at bs i = cond (nat_le (i + 8) (length bs)) (Some (number 256 (take 8 (drop i bs)))) None
