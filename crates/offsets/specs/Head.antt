-- The head of strides: (stride, length) stands for stride, 2 × stride, .. length × stride.
use Rattle.std.specs.Prelude.{ℕ, ◌+◌, ◌*◌, ◌^◌, Bool, false, cond, ◌&&◌, List, ◌++◌, map, Some, None, Option, nat_eq, nat_lt}
use Rattle.std.specs.List.{range_with_len}

-- s, 2 × s, .. n × s
abbrev pub multiples : ℕ → ℕ → List ℕ
multiples s n = map (λ k. s * k) (range_with_len 1 n)

-- the multiple after the first n, if it is a word
abbrev pub following_multiple : ℕ → ℕ → Option ℕ
following_multiple s n = cond (nat_lt (n + 1) (2 ^ 64) && nat_lt (s * (n + 1)) (2 ^ 64)) (Some (s * (n + 1))) None

abbrev pub is_next : ℕ → ℕ → ℕ → Bool
is_next s n x = elim (following_multiple s n) [ Some m ↦ nat_eq m x | None ↦ false ]

-- the list that a head and the bounds after it stand for
abbrev pub strides_list : ℕ → ℕ → List ℕ → List ℕ
strides_list s n bs = multiples s n ++ bs
