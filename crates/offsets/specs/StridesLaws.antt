-- The longest front of multiples, how a push changes it, and the laws of strides.
use Rattle.std.proofs.Common.{◌≡◌, ℕ, zero, suc, ◌+◌, ◌-◌, ◌*◌, ◌^◌, ◌<◌, ◌≤◌, Bool, true, false, cond, ◌&&◌, eqb, ltb, leb, List, [], ◌∷◌, ◌++◌, map, length, get_or, drop, sym, refl, ap, ◌∙◌, ap₂, append_assoc, add_comm, mul-le-mul_left, mul-one, arith, lit<, take, length-take}
use Rattle.std.specs.List.{range_with_len, AllByRecursion, list_all}
use Rattle.std.proofs.lemmas.List.{length-append, length-drop, get_or_append_left, drop-append-le, nil_from_length}
use Rattle.std.proofs.lemmas.List.FromFn.{length-map-range_with_len, get_or-map-range_with_len}
use Rattle.std.proofs.ByRecursion.{All-get_or, All-from_get_or, All-append, All-drop}
use Rattle.std.proofs.lemmas.Bool.{eqb-true, eq-eqb, ne_eqb, ltb-true, lt-ltb, leb-true, le-leb, and_parts, cond_both}
use Rattle.area.specs.Slice.{Slice, WellFormed, ZeroPadded, weight}
use Rattle.area.proofs.SliceLemmas.{of_words-formed, of_words_padded}
use Rattle.column.specs.Kind.{Format, Laws, Held, Accepted, L, reads, slot, word_of, least_words, reading_within, further}
use Rattle.offsets.specs.Head.{multiples, strides_list}
use Rattle.offsets.specs.Strides.{Own, stride, goes_on, front, bounds, strides_format}
use Rattle.column.specs.Element.{unsigned}
use Rattle.column.specs.Run.{word_run}
use Rattle.column.specs.RunLaws.{run_laws, unsigned_one_to_one, word-run-weight}
use Rattle.column.specs.KindLemmas.{least_words_lem, neither, in_bounds, after-reads, slot-formed}
use Rattle.column.proofs.WordLemmas.{is_word, all_words, list_all-words}

pub length-multiples : (s n : ℕ) → length (multiples s n) ≡ n
length-multiples s n = length-map-range_with_len (λ k. s * k) 1 n

pub get_or-multiples : (s n i d : ℕ) → i < n → get_or (multiples s n) i d ≡ s * (i + 1)
get_or-multiples s n i d h = get_or-map-range_with_len (λ k. s * k) 1 n i (i + 1) d h (omega arith)

-- a list goes on over k × s, .. and then as far as what follows
goes_on-run : (s k n : ℕ) (bs : List ℕ) → goes_on s k (map (λ j. s * j) (range_with_len k n) ++ bs) ≡ n + goes_on s (k + n) bs
goes_on-run s k zero bs = let e : k + 0 ≡ k = omega arith in rw e (omega arith)
goes_on-run s k (suc n) bs =
    let e : k + 1 + n ≡ k + suc n = omega arith in
    rw (eq-eqb (s * k) (s * k) refl) (let h = rw e at (goes_on-run s (k + 1) n bs) in omega arith)

goes_on-split : (s k : ℕ) (xs : List ℕ) → xs ≡ map (λ j. s * j) (range_with_len k (goes_on s k xs)) ++ drop (goes_on s k xs) xs
goes_on-split s k [] = refl
goes_on-split s k (x ∷ xs) =
    cond_both (eqb x (s * k)) (suc (goes_on s (k + 1) xs)) 0 (λ n. x ∷ xs ≡ map (λ j. s * j) (range_with_len k n) ++ drop n (x ∷ xs))
    (λ e. ap₂ ◌∷◌ (eqb-true x (s * k) e) (goes_on-split s (k + 1) xs))
    (λ e. refl)

goes_on_le : (s k : ℕ) (xs : List ℕ) → goes_on s k xs ≤ length xs
goes_on_le s k [] = omega arith
goes_on_le s k (x ∷ xs) =
    let h = goes_on_le s (k + 1) xs in
    cond_both (eqb x (s * k)) (suc (goes_on s (k + 1) xs)) 0 (λ n. n ≤ suc (length xs)) (λ e. omega arith) (λ e. omega arith)

pub split : (xs : List ℕ) → xs ≡ multiples (stride xs) (front xs) ++ bounds xs
split xs = goes_on-split (stride xs) 1 xs

pub front_le : (xs : List ℕ) → front xs ≤ length xs
front_le xs = goes_on_le (stride xs) 1 xs

pub length-bounds : (xs : List ℕ) → length (bounds xs) ≡ length xs - front xs
length-bounds xs = length-drop (front xs) xs

front-run : (xs : List ℕ) (s n : ℕ) (bs : List ℕ) → stride xs ≡ s → xs ≡ multiples s n ++ bs → front xs ≡ n + goes_on s (n + 1) bs
front-run xs s n bs h e = ap₂ (λ t ys. goes_on t 1 ys) h e ∙ goes_on-run s 1 n bs ∙ ap (λ k. n + goes_on s k bs) (add_comm 1 n)

pub front-multiples : (xs : List ℕ) (s n : ℕ) (bs : List ℕ) → xs ≡ multiples s n ++ bs → n ≤ front xs
front-multiples xs s zero bs e = omega arith
front-multiples xs s (suc n) bs e = omega (arith, front-run xs s (suc n) bs (ap stride e ∙ mul-one s) e)

pub front-positive : (x : ℕ) (xs : List ℕ) → 1 ≤ front (x ∷ xs)
front-positive x xs = rw (eq-eqb x (x * 1) (sym (mul-one x))) (omega arith)

stride-append : (xs ys : List ℕ) → 0 < length xs → stride (xs ++ ys) ≡ stride xs
stride-append [] ys h = absurd (omega arith)
stride-append (x ∷ xs) ys h = refl

-- what follows a list continues its front only if the list has no bounds
front-append : (xs ys : List ℕ) → 0 < length xs → front (xs ++ ys) ≡ front xs + goes_on (stride xs) (front xs + 1) (bounds xs ++ ys)
front-append xs ys h =
    front-run (xs ++ ys) (stride xs) (front xs) (bounds xs ++ ys) (stride-append xs ys h)
    (ap (λ zs. zs ++ ys) (split xs) ∙ append_assoc (multiples (stride xs) (front xs)) (bounds xs) ys)

-- the bounds do not go on where the front ends
bounds_start : (xs : List ℕ) → goes_on (stride xs) (front xs + 1) (bounds xs) ≡ 0
bounds_start xs = omega (arith, front-run xs (stride xs) (front xs) (bounds xs) refl (split xs))

goes_on-head : (s k : ℕ) (xs ys : List ℕ) → 0 < length xs → goes_on s k xs ≡ 0 → goes_on s k (xs ++ ys) ≡ 0
goes_on-head s k [] ys h e = absurd (omega arith)
goes_on-head s k (x ∷ xs) ys h e = go (eqb x (s * k)) e
  where
    go : (b : Bool) → cond b (suc (goes_on s (k + 1) xs)) 0 ≡ 0 → cond b (suc (goes_on s (k + 1) (xs ++ ys))) 0 ≡ 0
    go true e = absurd (omega arith)
    go false e = refl

-- one more element: one that goes on, and one that does not
goes_on_one : (s k x : ℕ) → x ≡ s * k → goes_on s k (x ∷ []) ≡ 1
goes_on_one s k x e = rw (eq-eqb x (s * k) e)

goes_on-push : (s k : ℕ) (bs : List ℕ) (x : ℕ) → goes_on s k bs ≡ 0 → (x ≡ s * k → ⊥) → goes_on s k (bs ++ x ∷ []) ≡ 0
goes_on-push s k [] x h e = rw (ne_eqb x (s * k) e)
goes_on-push s k (b ∷ bs) x h e = goes_on-head s k (b ∷ bs) (x ∷ []) (omega arith) h

pub front_more : (xs : List ℕ) (x : ℕ) → 0 < length xs → length (bounds xs) ≡ 0 → x ≡ stride xs * (front xs + 1) → Own (xs ++ x ∷ []) (stride xs) (front xs + 1) []
front_more xs x h b e =
    let n : front (xs ++ x ∷ []) ≡ front xs + 1 =
    front-append xs (x ∷ []) h
    ∙ ap (λ bs. front xs + goes_on (stride xs) (front xs + 1) (bs ++ x ∷ [])) (nil_from_length (bounds xs) b)
    ∙ ap (λ m. front xs + m) (goes_on_one (stride xs) (front xs + 1) x e) in
    (stride-append xs (x ∷ []) h, n, nil_from_length (bounds (xs ++ x ∷ [])) (omega (arith, length-bounds xs, length-bounds (xs ++ x ∷ []), length-append xs (x ∷ []))))

-- of a list whose front stays
stays : (xs : List ℕ) (x : ℕ) → 0 < length xs → goes_on (stride xs) (front xs + 1) (bounds xs ++ x ∷ []) ≡ 0 → Own (xs ++ x ∷ []) (stride xs) (front xs) (bounds xs ++ x ∷ [])
stays xs x h e =
    let f : front (xs ++ x ∷ []) ≡ front xs = omega (arith, front-append xs (x ∷ []) h) in
    (stride-append xs (x ∷ []) h, f, ap (λ n. drop n (xs ++ x ∷ [])) f ∙ drop-append-le (front xs) xs (x ∷ []) (front_le xs))

pub front-ends-bounds : (xs : List ℕ) (x : ℕ) → 0 < length (bounds xs) → Own (xs ++ x ∷ []) (stride xs) (front xs) (bounds xs ++ x ∷ [])
front-ends-bounds xs x h =
    stays xs x (omega (arith, length-bounds xs)) (goes_on-head (stride xs) (front xs + 1) (bounds xs) (x ∷ []) h (bounds_start xs))

pub front_ends : (xs : List ℕ) (x : ℕ) → 0 < length xs → (x ≡ stride xs * (front xs + 1) → ⊥) → Own (xs ++ x ∷ []) (stride xs) (front xs) (bounds xs ++ x ∷ [])
front_ends xs x h e = stays xs x h (goes_on-push (stride xs) (front xs + 1) (bounds xs) x (bounds_start xs) e)

-- the head's numbers fit a word
pub product : (xs : List ℕ) → list_all is_word xs ≡ true → stride xs * front xs < 2 ^ 64
product [] h = omega arith
product (x ∷ xs) h = last (front (x ∷ xs)) (front-positive x xs) (split (x ∷ xs)) (front_le (x ∷ xs))
  where
    ys : List ℕ
    ys = x ∷ xs

    last : (n : ℕ) → 1 ≤ n → ys ≡ multiples x n ++ bounds ys → n ≤ length ys → x * n < 2 ^ 64
    last zero l e u = absurd (omega arith)
    last (suc n) l e u =
        let at : get_or ys n 0 ≡ x * (n + 1) =
        ap (λ zs. get_or zs n 0) e
        ∙ get_or_append_left (multiples x (suc n)) (bounds ys) 0 n (omega (arith, length-multiples x (suc n)))
        ∙ get_or-multiples x (suc n) n 0 (omega arith) in
        let up : n + 1 ≡ suc n = omega arith in
        rw (at, up) at (All-get_or (λ y. y < 2 ^ 64) ys n 0 u (all_words ys h))

-- multiples up to a product that fits a word fit a word
multiples_fit : (s n : ℕ) → s * n < 2 ^ 64 → AllByRecursion (λ x. x < 2 ^ 64) (multiples s n)
multiples_fit s n h =
    All-from_get_or (λ x. x < 2 ^ 64) (multiples s n) 0
    (λ i l. let m : i + 1 ≤ n = omega (arith, length-multiples s n) in
    omega (arith, get_or-multiples s n i 0 (omega arith), mul-le-mul_left s m))

-- what a head and bounds stand for is a list that strides write
held-strides : (s n : ℕ) (bs : List ℕ) → s * n < 2 ^ 64 → list_all is_word bs ≡ true → n + length bs ≤ L → Held is_word (strides_list s n bs)
held-strides s n bs p f l = (
  list_all-words (strides_list s n bs) (All-append (λ x. x < 2 ^ 64) (multiples s n) bs (multiples_fit s n p) (all_words bs f)),
  omega (arith, length-append (multiples s n) bs, length-multiples s n),
)

pub strides_held : (s n m : ℕ) (cells : List ℕ) → s * n < 2 ^ 64 → list_all is_word (take m cells) ≡ true → n + m ≤ L → Held is_word (strides_list s n (take m cells))
strides_held s n m cells p f l = held-strides s n (take m cells) p f (simp length-take (omega arith))

stride-fits : (xs : List ℕ) → list_all is_word xs ≡ true → stride xs < 2 ^ 64
stride-fits [] h = omega arith
stride-fits (x ∷ xs) h = (all_words (x ∷ xs) h).0

reads-back : (xs : List ℕ) → Held is_word xs → reading_within (ltb (stride xs * front xs) (2 ^ 64) && leb (front xs + length (bounds xs)) L) (multiples (stride xs) (front xs) ++ bounds xs) ≡ reads xs
reads-back xs h =
    let fits = lt-ltb (stride xs * front xs) (2 ^ 64) (product xs h.0) in
    let short = le-leb (front xs + length (bounds xs)) L (omega (arith, length-bounds xs, front_le xs, h.1)) in
    rw (fits, short) (ap reads (sym (split xs)))

module _ (B : Format ℕ) where
  -- what accepted slices consist of: a head and accepted bounds
  pub record Parts (ss : List Slice) (xs : List ℕ) : Type 0 where
    pub bs : List ℕ
    pub least : 2 ≤ length (slot ss 0).words
    pub below : Accepted B (drop 1 ss) bs
    pub fits : word_of (slot ss 0) 0 * word_of (slot ss 0) 1 < 2 ^ 64
    pub short : word_of (slot ss 0) 1 + length bs ≤ L
    pub is : xs ≡ strides_list (word_of (slot ss 0) 0) (word_of (slot ss 0) 1) bs

  pub parts : (ss : List Slice) (xs : List ℕ) → Accepted (strides_format B) ss xs → Parts ss xs
  parts ss xs a =
      let h = slot ss 0 in
      let f = neither 1 (least_words 2 0 h) (B.sized (drop 1 ss)) a.fitting in
      let r = after-reads 1 (B.reading (drop 1 ss)) _ xs a.reading in
      let b = in_bounds _ _ xs r.2 in
      let t = and_parts (ltb (word_of h 0 * word_of h 1) (2 ^ 64)) (leb (word_of h 1 + length r.0) L) b.0 in
      record {
        bs = r.0;
        least = least_words_lem 2 0 h f.0;
        below = record { count = omega (arith, a.count, length-drop 1 ss); formed = All-drop WellFormed 1 ss a.formed; fitting = f.1; reading = r.1 };
        fits = ltb-true (word_of h 0 * word_of h 1) (2 ^ 64) t.0;
        short = leb-true (word_of h 1 + length r.0) L t.1;
        is = sym b.1;
      }

module _ (B : Format ℕ) (laws : Laws is_word B) (heavy : (ys : List ℕ) → Held is_word ys → weight (B.writing ys) ≡ length ys) where
  held-bounds : (xs : List ℕ) → Held is_word xs → Held is_word (bounds xs)
  held-bounds xs h = (
    list_all-words (bounds xs) (All-drop (λ x. x < 2 ^ 64) (front xs) xs (all_words xs h.0)),
    omega (arith, length-bounds xs, h.1),
  )

  sound : (ss : List Slice) (xs : List ℕ) → Accepted (strides_format B) ss xs → Held is_word xs
  sound ss xs a =
      let p = parts B ss xs a in
      rw p.is (held-strides (word_of (slot ss 0) 0) (word_of (slot ss 0) 1) p.bs p.fits (laws.sound (drop 1 ss) p.bs p.below).0 p.short)

  least : (ss : List Slice) (xs : List ℕ) → Accepted (strides_format B) ss xs → weight ((strides_format B).writing xs) ≤ weight ss
  least [] xs a = absurd (omega (arith, a.count))
  least (s ∷ ss) xs a =
      let p = parts B (s ∷ ss) xs a in
      let ms = multiples (word_of s 0) (word_of s 1) in
      omega (
        arith,
        p.least,
        laws.least ss p.bs p.below,
        heavy p.bs (laws.sound ss p.bs p.below),
        heavy (bounds xs) (held-bounds xs (sound (s ∷ ss) xs a)),
        front-multiples xs (word_of s 0) (word_of s 1) p.bs p.is,
        length-bounds xs,
        ap length p.is,
        length-append ms p.bs,
        length-multiples (word_of s 0) (word_of s 1),
      )

  given : (ss : List Slice) (xs : List ℕ) → Accepted (strides_format B) ss xs → Accepted (strides_format B) ((strides_format B).giving ss) xs × AllByRecursion ZeroPadded ((strides_format B).giving ss)
  given ss xs a =
      let b = (parts B ss xs a).below in
      let g = laws.given (drop 1 ss) _ b in
      let ws = (slot ss 0).words in (
        record {
          count = ap suc g.0.count;
          formed = (of_words-formed ws (slot-formed ss 0 (omega (arith, a.count)) a.formed).0, g.0.formed);
          fitting = rw g.0.fitting (rw b.fitting at a.fitting);
          reading = rw g.0.reading (rw b.reading at a.reading);
        },
        (of_words_padded ws, g.1),
      )

  pub strides_laws : Laws is_word (strides_format B)
  strides_laws = record {
    shape = λ xs h.
        let b = laws.shape (bounds xs) (held-bounds xs h) in (
          ap suc b.0,
          (((stride-fits xs h.0, (omega (arith, front_le xs, h.1), tt)), refl), b.1),
          (tt, b.2),
        );
    return = λ xs h.
        let b = laws.return (bounds xs) (held-bounds xs h) in (
          ap (further 1) b.0,
          rw b.1 (reads-back xs h),
        );
    sound = sound;
    least = least;
    given = given;
  }

-- strides whose bounds are a run of words
pub word_strides_laws : Laws is_word (strides_format word_run)
word_strides_laws = strides_laws word_run (run_laws is_word (unsigned 8) (unsigned_one_to_one 8 (lit< tt))) (λ ys h. word-run-weight ys h.0)

pub strides_formed : (s n m : ℕ) (cells : List ℕ) → s * n < 2 ^ 64 → list_all is_word (take m cells) ≡ true → n + m ≤ L → AllByRecursion WellFormed ((strides_format word_run).writing (strides_list s n (take m cells)))
strides_formed s n m cells p f l = (word_strides_laws.shape (strides_list s n (take m cells)) (strides_held s n m cells p f l)).1
