-- Digits and their number, chunks and their joint list, over any base b and any size k.
use Rattle.std.proofs.Common.{◌≡◌, ℕ, zero, suc, ◌+◌, ◌-◌, ◌*◌, ◌/◌, ◌%◌, ◌^◌, ◌<◌, ◌≤◌, List, [], ◌∷◌, ◌++◌, map, length, get_or, take, drop, replicate, sym, refl, ap, ◌∙◌, ⊎_elim, append_assoc, append-nil, mod-lt, mod-eq_of_lt, mul_comm, add_comm, pow-suc, mul-zero, zero-add, mul-suc, div-one, arith, length-append, length-drop, take-append-drop, length-take, length-take-le, take_all, drop-drop, take_at, take-add, drop_at}
use native.Mathlib.Nat.{pow-zero, pow-succ', zero-div, zero-mod, mod-one, one-le-pow, div-eq_of_lt, add-mul-mod_self_left, add-mul-div_left, div-div-eq-div-mul, sub-zero, sub_self, suc-sub-suc, pow-le-pow_right}
use lib.Arith.{digits_lt, mod-mul}
use lib.ListN.{replicate-append-replicate}
use Rattle.std.specs.List.{flat_map, AllByRecursion}
use Rattle.std.proofs.lemmas.Nat.{pow-add}
use Rattle.std.proofs.ByRecursion.{All-append, All-take, All-drop}
use Rattle.std.proofs.lemmas.List.{drop_all, get_or_append_left, get_or-append_right, nil_from_length}
use Rattle.std.proofs.lemmas.Bool.{cases_lt}
use Rattle.area.specs.Digits.{number, digits, chunks}

-- the lowest digit, and the number of the others
low_digit : (b d w : ℕ) → d < b → (d + b * w) % b ≡ d
low_digit b d w h = add-mul-mod_self_left d b w ∙ mod-eq_of_lt h

high_digits : (b d w : ℕ) → d < b → (d + b * w) / b ≡ w
high_digits b d w h = let p : 0 < b = omega arith in add-mul-div_left d w p ∙ rw (div-eq_of_lt h) (zero-add w)

digits-zero : (b n : ℕ) → digits b n 0 ≡ replicate n 0
digits-zero b zero = refl
digits-zero b (suc n) = rw (zero-mod, zero-div) (ap (λ ds. 0 ∷ ds) (digits-zero b n))

pub digits_number : (b n : ℕ) (ds : List ℕ) → AllByRecursion (λ d. d < b) ds → length ds ≤ n → digits b n (number b ds) ≡ ds ++ replicate (n - length ds) 0
digits_number b n [] h l = rw sub-zero (digits-zero b n)
digits_number b zero (d ∷ ds) h l = absurd (omega arith)
digits_number b (suc n) (d ∷ ds) h l =
    rw (low_digit b d (number b ds) h.0, high_digits b d (number b ds) h.0, suc-sub-suc) (ap (λ es. d ∷ es) (digits_number b n ds h.1 (omega arith)))

pub digits_number_all : (b : ℕ) (ds : List ℕ) (n : ℕ) → AllByRecursion (λ d. d < b) ds → length ds ≡ n → digits b n (number b ds) ≡ ds
digits_number_all b ds n h l =
    let z : n - length ds ≡ 0 = omega arith in
    digits_number b n ds h (omega arith) ∙ rw z (append-nil ds)

-- the number of the n lowest digits, and the digits of what has no more
pub number_digits_low : (b n w : ℕ) → 0 < b → number b (digits b n w) ≡ w % b ^ n
number_digits_low b zero w p = rw (pow-zero, mod-one)
number_digits_low b (suc n) w p =
    let q : 0 < b ^ n = omega (arith, one-le-pow n b p) in
    rw (number_digits_low b n (w / b) p, pow-suc, mod-mul w q p) (omega (arith, mul_comm b (w / b % b ^ n)))

pub number_digits : (b n w : ℕ) → 0 < b → w < b ^ n → number b (digits b n w) ≡ w
number_digits b n w p h = number_digits_low b n w p ∙ mod-eq_of_lt h

pub take-digits : (b k n w : ℕ) → k ≤ n → take k (digits b n w) ≡ digits b k w
take-digits b zero n w h = refl
take-digits b (suc k) zero w h = absurd (omega arith)
take-digits b (suc k) (suc n) w h = ap (λ ds. w % b ∷ ds) (take-digits b k n (w / b) (omega arith))

pub bytes_of_bits : (j : ℕ) → 2 ^ (8 * j) ≡ 256 ^ j
bytes_of_bits zero = refl
bytes_of_bits (suc j) = rw (mul-suc 8 j, pow-add 2 (8 * j) 8, pow-suc 256 j, bytes_of_bits j)

pub length_digits : (b n w : ℕ) → length (digits b n w) ≡ n
length_digits b zero w = refl
length_digits b (suc n) w = ap suc (length_digits b n (w / b))

pub digits_under : (b n w : ℕ) → 0 < b → AllByRecursion (λ d. d < b) (digits b n w)
digits_under b zero w p = tt
digits_under b (suc n) w p = (mod-lt w p, digits_under b n (w / b) p)

pub number_lt : (b : ℕ) (ds : List ℕ) → AllByRecursion (λ d. d < b) ds → number b ds < b ^ length ds
number_lt b [] h = omega (arith, pow-zero b)
number_lt b (d ∷ ds) h =
    rw pow-suc (omega (arith, mul_comm b (number b ds), digits_lt (number_lt b ds h.1) h.0))

-- past the end both sides are 0
pub number-drop : (b j : ℕ) (ds : List ℕ) → number b (drop j ds) ≡ get_or ds j 0 + b * number b (drop (suc j) ds)
number-drop b zero [] = omega (arith, mul-zero b)
number-drop b (suc j) [] = omega (arith, mul-zero b)
number-drop b zero (d ∷ ds) = refl
number-drop b (suc j) (d ∷ ds) = number-drop b j ds

pub get_or-digits : (b n w j : ℕ) → j < n → get_or (digits b n w) j 0 ≡ w / b ^ j % b
get_or-digits b zero w j h = absurd (omega arith)
get_or-digits b (suc n) w zero h = rw (pow-zero, div-one)
get_or-digits b (suc n) w (suc j) h = rw (pow-succ', ← div-div-eq-div-mul w b (b ^ j)) (get_or-digits b n (w / b) j (omega arith))

module _ {X : Type 0} where
  pub length-chunks : (k n : ℕ) (xs : List X) → length (chunks k n xs) ≡ n
  length-chunks k zero xs = refl
  length-chunks k (suc n) xs = ap suc (length-chunks k n (drop k xs))

  pub get_or-chunks : (k n : ℕ) (xs : List X) (i : ℕ) → i < n → get_or (chunks k n xs) i [] ≡ take k (drop (k * i) xs)
  get_or-chunks k zero xs i h = absurd (omega arith)
  get_or-chunks k (suc n) xs zero h = rw mul-zero
  get_or-chunks k (suc n) xs (suc i) h = get_or-chunks k n (drop k xs) i (omega arith) ∙ rw (drop-drop, mul-suc, add_comm k (k * i))

  pub all_chunks : (k n : ℕ) (xs : List X) → k * n ≤ length xs → AllByRecursion (λ c. length c ≡ k) (chunks k n xs)
  all_chunks k zero xs h = tt
  all_chunks k (suc n) xs h =
      let l : k * n + k ≤ length xs = rw mul-suc at h in
      (length-take-le k xs (omega arith), all_chunks k n (drop k xs) (simp length-drop (omega arith)))

  pub all_in_chunks : (P : X → Type 0) (k n : ℕ) (xs : List X) → AllByRecursion P xs → AllByRecursion (AllByRecursion P) (chunks k n xs)
  all_in_chunks P k zero xs h = tt
  all_in_chunks P k (suc n) xs h = (All-take P k xs h, all_in_chunks P k n (drop k xs) (All-drop P k xs h))

  pub joined_chunks : (k n : ℕ) (xs : List X) → flat_map (λ c. c) (chunks k n xs) ≡ take (k * n) xs
  joined_chunks k zero xs = rw mul-zero
  joined_chunks k (suc n) xs = rw (mul-suc, add_comm, take-add, joined_chunks k n (drop k xs))

module _ {X A : Type 0} (f : X → List A) where
  pub joined_append : (xs ys : List X) → flat_map f (xs ++ ys) ≡ flat_map f xs ++ flat_map f ys
  joined_append [] ys = refl
  joined_append (x ∷ xs) ys = rw (joined_append xs ys, append_assoc)

  pub length_joined : (k : ℕ) (xs : List X) → AllByRecursion (λ x. length (f x) ≡ k) xs → length (flat_map f xs) ≡ k * length xs
  length_joined k [] h = rw mul-zero
  length_joined k (x ∷ xs) h = rw (length-append, mul-suc, length_joined k xs h.1, h.0) (omega arith)

  -- with a rest ys after the chunks
  pub chunks_joined : (k : ℕ) (xs : List X) (ys : List A) → AllByRecursion (λ x. length (f x) ≡ k) xs → chunks k (length xs) (flat_map f xs ++ ys) ≡ map f xs
  chunks_joined k [] ys h = refl
  chunks_joined k (x ∷ xs) ys h =
      rw (append_assoc, take_at (f x) (flat_map f xs ++ ys) k h.0, drop_at (f x) (flat_map f xs ++ ys) k h.0, chunks_joined k xs ys h.1)

  pub chunks_joined_all : (k : ℕ) (xs : List X) → AllByRecursion (λ x. length (f x) ≡ k) xs → chunks k (length xs) (flat_map f xs) ≡ map f xs
  chunks_joined_all k xs h = ap (chunks k (length xs)) (sym (append-nil (flat_map f xs))) ∙ chunks_joined k xs [] h

  pub get_or_joined : (k : ℕ) (xs : List X) (i j : ℕ) (d : A) (e : X) → AllByRecursion (λ x. length (f x) ≡ k) xs → i < length xs → j < k → get_or (flat_map f xs) (k * i + j) d ≡ get_or (f (get_or xs i e)) j d
  get_or_joined k [] i j d e h l m = absurd (omega arith)
  get_or_joined k (x ∷ xs) zero j d e h l m = rw (mul-zero, zero-add) (get_or_append_left (f x) (flat_map f xs) d j (omega (arith, h.0)))
  get_or_joined k (x ∷ xs) (suc i) j d e h l m =
      get_or-append_right (f x) (flat_map f xs) k (k * suc i + j) d h.0 (omega (arith, mul-suc k i))
      ∙ (let q : k * suc i + j - k ≡ k * i + j = omega (arith, mul-suc k i) in rw q (get_or_joined k xs i j d e h.1 (omega arith) m))

-- what holds of everything holds of each element
pub all_always : {X : Type 0} (P : X → Type 0) → ((x : X) → P x) → (xs : List X) → AllByRecursion P xs
all_always P h [] = tt
all_always P h (x ∷ xs) = (h x, all_always P h xs)

pub all_replicate : {X : Type 0} (P : X → Type 0) (n : ℕ) (x : X) → P x → AllByRecursion P (replicate n x)
all_replicate P zero x h = tt
all_replicate P (suc n) x h = (h, all_replicate P n x h)

pub all_joined : {X A : Type 0} (P : A → Type 0) (f : X → List A) (xs : List X) → AllByRecursion (λ x. AllByRecursion P (f x)) xs → AllByRecursion P (flat_map f xs)
all_joined P f [] h = tt
all_joined P f (x ∷ xs) h = All-append P (f x) (flat_map f xs) h.0 (all_joined P f xs h.1)

-- one chunk filled up, and the rest of the list filled up to n chunks
pad_chunk : (k n : ℕ) (ds : List ℕ) → (take k ds ++ replicate (k - length (take k ds)) 0) ++ (drop k ds ++ replicate (k * n - length (drop k ds)) 0) ≡ ds ++ replicate (k * suc n - length ds) 0
pad_chunk k n ds = ⊎_elim short whole (cases_lt (length ds) k)
  where
    short : length ds < k → (take k ds ++ replicate (k - length (take k ds)) 0) ++ (drop k ds ++ replicate (k * n - length (drop k ds)) 0) ≡ ds ++ replicate (k * suc n - length ds) 0
    short l = rw (take_all k ds (omega arith), drop_all k ds (omega arith), append_assoc, replicate-append-replicate) (ap (λ m. ds ++ replicate m 0) (omega (arith, mul-suc k n)))

    whole : k ≤ length ds → (take k ds ++ replicate (k - length (take k ds)) 0) ++ (drop k ds ++ replicate (k * n - length (drop k ds)) 0) ≡ ds ++ replicate (k * suc n - length ds) 0
    whole l =
        rw (length-take-le k ds l, sub_self, append-nil, ← append_assoc (take k ds), take-append-drop, length-drop)
        (ap (λ m. ds ++ replicate m 0) (omega (arith, mul-suc k n)))

-- Numbers of k digits each, for the digits of a list: zeros fill up the last.
module _ (b k : ℕ) where
  pub joined_digits : (n : ℕ) (ds : List ℕ) → AllByRecursion (λ d. d < b) ds → length ds ≤ k * n → flat_map (digits b k) (map (number b) (chunks k n ds)) ≡ ds ++ replicate (k * n - length ds) 0
  joined_digits zero ds h l = rw (nil_from_length ds (omega (arith, mul-zero k)), mul-zero)
  joined_digits (suc n) ds h l =
      rw (
        digits_number b k (take k ds) (All-take (λ d. d < b) k ds h) (simp length-take (omega arith)),
        joined_digits n (drop k ds) (All-drop (λ d. d < b) k ds h) (simp length-drop (omega (arith, mul-suc k n))),
      )
      (pad_chunk k n ds)

  pub chunks_under : (n : ℕ) (ds : List ℕ) → 0 < b → AllByRecursion (λ d. d < b) ds → AllByRecursion (λ w. w < b ^ k) (map (number b) (chunks k n ds))
  chunks_under zero ds p h = tt
  chunks_under (suc n) ds p h =
      let l : length (take k ds) ≤ k = simp length-take (omega arith) in (
        omega (arith, number_lt b (take k ds) (All-take (λ d. d < b) k ds h), pow-le-pow_right p l),
        chunks_under n (drop k ds) p (All-drop (λ d. d < b) k ds h),
      )

  map-digits : (ws : List ℕ) → 0 < b → AllByRecursion (λ w. w < b ^ k) ws → map (number b) (map (digits b k) ws) ≡ ws
  map-digits [] p h = refl
  map-digits (w ∷ ws) p h = rw (number_digits b k w p h.0, map-digits ws p h.1)

  pub all_length_digits : (ws : List ℕ) → AllByRecursion (λ w. length (digits b k w) ≡ k) ws
  all_length_digits = all_always (λ w. length (digits b k w) ≡ k) (length_digits b k)

  pub chunks-digits : (ws : List ℕ) → 0 < b → AllByRecursion (λ w. w < b ^ k) ws → map (number b) (chunks k (length ws) (flat_map (digits b k) ws)) ≡ ws
  chunks-digits ws p h = rw (chunks_joined_all (digits b k) k ws (all_length_digits ws)) (map-digits ws p h)
