-- Strides: the head (stride, length), which stands for stride, 2 × stride, .. length × stride, and the bounds.
use Rattle.std.specs.Prelude.{◌≡◌, ℕ, suc, ◌+◌, ◌*◌, ◌^◌, Bool, cond, ◌&&◌, ◌||◌, List, [], ◌∷◌, ◌++◌, length, drop, Some, None, Ok, Err, Option, Result, ◌==◌, nat_le, nat_lt, slice_index}
use Rattle.area.specs.Slice.{of_words}
use Rattle.area.specs.declared.fault.Fault.{Fault}
use Rattle.column.specs.Column.{Areas, element}
use Rattle.offsets.specs.declared.head.Head.{Head}
use Rattle.offsets.specs.Head.{strides_list}
use Rattle.column.specs.Kind.{Format, L, slot, word_of, least_words, first_refused, further, after, reading_within}
use Rattle.column.specs.Run.{run_takes}

abbrev pub stride : List ℕ → ℕ
stride [] = 0
stride (x ∷ xs) = x

-- how far a list goes on as k × s, (k + 1) × s, ..
abbrev pub goes_on : ℕ → ℕ → List ℕ → ℕ
goes_on s k [] = 0
goes_on s k (x ∷ xs) = cond (x == s * k) (suc (goes_on s (k + 1) xs)) 0

-- the length of the longest front that is stride, 2 × stride, ..
abbrev pub front : List ℕ → ℕ
front xs = goes_on (stride xs) 1 xs

abbrev pub bounds : List ℕ → List ℕ
bounds xs = drop (front xs) xs

-- a list's own head and bounds
abbrev pub Own : List ℕ → ℕ → ℕ → List ℕ → Type 0
Own xs s n bs = (stride xs ≡ s) × (front xs ≡ n) × (bounds xs ≡ bs)

-- the head that stands for one more element of a list, or none: then the element is a bound
abbrev pub Grown : ℕ → ℕ → List ℕ → ℕ → Option Head → Type 0
Grown s n bs x None = Own (strides_list s n bs ++ x ∷ []) s n (bs ++ x ∷ [])
Grown s n bs x (Some h) = Own (strides_list s n bs ++ x ∷ []) h.stride h.length bs

-- strides whose bounds are of the kind B
abbrev pub strides_format : Format ℕ → Format ℕ
strides_format B = record {
  slots = suc B.slots;
  writing = λ xs. of_words (stride xs ∷ front xs ∷ []) ∷ B.writing (bounds xs);
  sized = λ ss. first_refused (least_words 2 0 (slot ss 0)) (further 1 (B.sized (drop 1 ss)));
  reading = λ ss. after 1 (B.reading (drop 1 ss)) (λ bs.
      let s = word_of (slot ss 0) 0 in
      let n = word_of (slot ss 0) 1 in
      reading_within (nat_lt (s * n) (2 ^ 64) && nat_le (n + length bs) L) (strides_list s n bs));
  giving = λ ss. of_words (slot ss 0).words ∷ B.giving (drop 1 ss);
}

-- an element is taken that needs no new bound, or that the run of bounds takes
abbrev pub strides_takes : Areas → List ℕ → ℕ → Bool
strides_takes a xs x = nat_lt (length xs) L && (length (bounds (xs ++ x ∷ [])) == length (bounds xs) || run_takes a (bounds xs) x)

-- element i - 1, or 0 before the first, and element i
abbrev pub bounds_at : List ℕ → ℕ → Result (ℕ × ℕ) Fault
bounds_at xs i = elim (element xs i) [ Ok x ↦ Ok (slice_index (0 ∷ xs) i, x) | Err f ↦ Err f ]
