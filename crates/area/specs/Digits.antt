-- Numbers by their digits, the lowest first, and lists by chunks. Bytes are digits in base 256, bits in base 2.
use Rattle.std.specs.Prelude.{ℕ, zero, suc, ◌+◌, ◌*◌, ◌/◌, ◌%◌, List, [], ◌∷◌, take, drop}

-- the number that digits in base b write
abbrev pub number : ℕ → List ℕ → ℕ
number b [] = 0
number b (d ∷ ds) = d + b * number b ds

-- the n lowest digits of w in base b
abbrev pub digits : ℕ → ℕ → ℕ → List ℕ
digits b zero w = []
digits b (suc n) w = w % b ∷ digits b n (w / b)

-- the first n chunks of k elements; at the end of the list a chunk is shorter, then empty
abbrev pub chunks : {X : Type 0} → ℕ → ℕ → List X → List (List X)
chunks k zero xs = []
chunks k (suc n) xs = take k xs ∷ chunks k n (drop k xs)
