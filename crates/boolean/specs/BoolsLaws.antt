-- Bits of words, the groups of 64 and the rest, how a push changes them, and the laws of bools.
use Rattle.std.specs.Prelude.{◌≡◌, ℕ, zero, suc, ◌+◌, ◌*◌, ◌/◌, ◌%◌, ◌^◌, ◌<◌, ◌≤◌, Bool, true, false, ◌&&◌, eqb, leb, List, [], ◌∷◌, ◌++◌, map, length, take, drop, Some, None, Option, refl}
use Rattle.std.proofs.Common.{sym, ap, ◌∙◌, ap₂, append_assoc, append-nil, mod-eq_of_lt, arith}
use native.Mathlib.Nat.{pow-le-pow_right}
use Rattle.std.specs.List.{flat_map, AllByRecursion, list_all}
use Rattle.std.proofs.lemmas.List.{length-append, length-map, length-drop, take-append-drop, drop_at, take_at, get_or_at, take_all, take_more, length_push, length-take-le}
use Rattle.std.proofs.ByRecursion.{All-append, All-take, All-map, All-weaker}
use Rattle.std.proofs.lemmas.Bool.{leb-true, le-leb, and_parts}
use Rattle.area.specs.Digits.{number, digits, chunks}
use Rattle.area.specs.Slice.{Slice, WellFormed, ZeroPadded, weight, of_words}
use Rattle.area.proofs.DigitLemmas.{digits_number_all, number_digits_low, length_digits, digits_under, number_lt, length-chunks, all_chunks, joined_chunks, joined_append, length_joined, chunks_joined, all_always}
use Rattle.area.proofs.SliceLemmas.{of_words-formed, of_words_padded, weight-append}
use Rattle.column.specs.Kind.{first_refused, Format, Laws, Held, Accepted, L, reads, slot, word_of, least_words, reading_within}
use Rattle.boolean.specs.Bools.{bit, from_bits, to_bits, groups, rest, held_bits, tail_slice, bools_format}
use Rattle.column.specs.KindLemmas.{least_words_lem, in_bounds, after-reads, slot-formed}
use Rattle.column.proofs.WordLemmas.{is_word, all_words, list_all-words}

-- a list of m words, where bits are counted by m
pub few_elements : (ws : List ℕ) (n : ℕ) {m : ℕ} → m ≡ length ws → 64 * m + n ≤ L → 64 * length ws + n ≤ L
few_elements ws n p h = omega (arith, p, h)

-- bits as digits, and back
bits_back : (bs : List Bool) → map (eqb 1) (map bit bs) ≡ bs
bits_back [] = refl
bits_back (true ∷ bs) = ap (λ cs. true ∷ cs) (bits_back bs)
bits_back (false ∷ bs) = ap (λ cs. false ∷ cs) (bits_back bs)

digit_back : (d : ℕ) → d < 2 → bit (eqb 1 d) ≡ d
digit_back zero h = refl
digit_back (suc zero) h = refl
digit_back (suc (suc d)) h = absurd (omega arith)

digits-back : (ds : List ℕ) → AllByRecursion (λ d. d < 2) ds → map bit (map (eqb 1) ds) ≡ ds
digits-back [] h = refl
digits-back (d ∷ ds) h = ap₂ ◌∷◌ (digit_back d h.0) (digits-back ds h.1)

bits_under : (bs : List Bool) → AllByRecursion (λ d. d < 2) (map bit bs)
bits_under [] = tt
bits_under (true ∷ bs) = (omega arith, bits_under bs)
bits_under (false ∷ bs) = (omega arith, bits_under bs)

pub length-to_bits : (n w : ℕ) → length (to_bits n w) ≡ n
length-to_bits n w = length-map (digits 2 n w) (eqb 1) ∙ length_digits 2 n w

pub to_bits-from_bits : (bs : List Bool) → to_bits (length bs) (from_bits bs) ≡ bs
to_bits-from_bits bs = ap (map (eqb 1)) (digits_number_all 2 (map bit bs) (length bs) (bits_under bs) (length-map bs bit)) ∙ bits_back bs

pub from_bits_low : (n w : ℕ) → from_bits (to_bits n w) ≡ w % 2 ^ n
from_bits_low n w = ap (number 2) (digits-back (digits 2 n w) (digits_under 2 n w (omega arith))) ∙ number_digits_low 2 n w (omega arith)

pub from_bits-to_bits : (n w : ℕ) → w < 2 ^ n → from_bits (to_bits n w) ≡ w
from_bits-to_bits n w h = from_bits_low n w ∙ mod-eq_of_lt h

pub from_bits_lt : (bs : List Bool) → from_bits bs < 2 ^ length bs
from_bits_lt bs = rw (length-map bs bit) at (number_lt 2 (map bit bs) (bits_under bs))

-- what fits a word
from_bits-word : (bs : List Bool) → length bs ≤ 64 → from_bits bs < 2 ^ 64
from_bits-word bs h = let p : 0 < 2 = omega arith in omega (arith, from_bits_lt bs, pow-le-pow_right p h)

-- full groups as words, and back
word_back : (c : List Bool) → length c ≡ 64 → to_bits 64 (from_bits c) ≡ c
word_back c h = ap (λ n. to_bits n (from_bits c)) (sym h) ∙ to_bits-from_bits c

groups-back : (cs : List (List Bool)) → AllByRecursion (λ c. length c ≡ 64) cs → flat_map (to_bits 64) (map from_bits cs) ≡ flat_map (λ c. c) cs
groups-back [] h = refl
groups-back (c ∷ cs) h = ap₂ ◌++◌ (word_back c h.0) (groups-back cs h.1)

words_back : (ws : List ℕ) → AllByRecursion (λ w. w < 2 ^ 64) ws → map from_bits (map (to_bits 64) ws) ≡ ws
words_back [] h = refl
words_back (w ∷ ws) h = ap₂ ◌∷◌ (from_bits-to_bits 64 w h.0) (words_back ws h.1)

full : (xs : List Bool) → AllByRecursion (λ c. length c ≡ 64) (chunks 64 (length xs / 64) xs)
full xs = all_chunks 64 (length xs / 64) xs (omega arith)

pub split : (xs : List Bool) → xs ≡ flat_map (to_bits 64) (groups xs) ++ rest xs
split xs =
    let n = length xs / 64 in
    sym (take-append-drop (64 * n) xs) ∙ ap (λ ys. ys ++ rest xs) (sym (groups-back (chunks 64 n xs) (full xs) ∙ joined_chunks 64 n xs))

pub length-groups : (xs : List Bool) → length (groups xs) ≡ length xs / 64
length-groups xs = length-map (chunks 64 (length xs / 64) xs) from_bits ∙ length-chunks 64 (length xs / 64) xs

pub length_rest : (xs : List Bool) → length (rest xs) ≤ 63
length_rest xs = omega (arith, length-drop (64 * (length xs / 64)) xs)

pub groups_fit : (xs : List Bool) → list_all is_word (groups xs) ≡ true
groups_fit xs =
    list_all-words (groups xs)
    (All-map (λ w. w < 2 ^ 64) from_bits (chunks 64 (length xs / 64) xs)
    (All-weaker (λ c. length c ≡ 64) (λ c. from_bits c < 2 ^ 64) (λ c h. from_bits-word c (omega arith)) (chunks 64 (length xs / 64) xs) (full xs)))

pub all_64 : (ws : List ℕ) → AllByRecursion (λ w. length (to_bits 64 w) ≡ 64) ws
all_64 = all_always (λ w. length (to_bits 64 w) ≡ 64) (length-to_bits 64)

pub length_bits : (ws : List ℕ) → length (flat_map (to_bits 64) ws) ≡ 64 * length ws
length_bits ws = length_joined (to_bits 64) 64 ws (all_64 ws)

-- a list is words and at most 63 bits in one way only
abbrev pub Stands : List Bool → List ℕ → List Bool → Type 0
Stands xs ws bs = (groups xs ≡ ws) × (rest xs ≡ bs)

pub unique : (xs : List Bool) (ws : List ℕ) (bs : List Bool) → xs ≡ flat_map (to_bits 64) ws ++ bs → length bs ≤ 63 → AllByRecursion (λ w. w < 2 ^ 64) ws → Stands xs ws bs
unique xs ws bs e l h =
    let ys = flat_map (to_bits 64) ws in
    let n : length xs / 64 ≡ length ws = omega (arith, ap length e, length-append ys bs, length_bits ws) in (
      ap₂ (λ m zs. map from_bits (chunks 64 m zs)) n e ∙ ap (map from_bits) (chunks_joined (to_bits 64) 64 ws bs (all_64 ws)) ∙ words_back ws h,
      ap₂ (λ m zs. drop (64 * m) zs) n e ∙ drop_at ys bs (64 * length ws) (length_bits ws),
    )

-- one more element
split-push : (xs : List Bool) (x : Bool) → xs ++ x ∷ [] ≡ flat_map (to_bits 64) (groups xs) ++ (rest xs ++ x ∷ [])
split-push xs x = ap (λ ys. ys ++ x ∷ []) (split xs) ∙ append_assoc (flat_map (to_bits 64) (groups xs)) (rest xs) (x ∷ [])

pub rest_more : (xs : List Bool) (x : Bool) → length (rest xs) < 63 → Stands (xs ++ x ∷ []) (groups xs) (rest xs ++ x ∷ [])
rest_more xs x h =
    unique (xs ++ x ∷ []) (groups xs) (rest xs ++ x ∷ [])
    (split-push xs x)
    (omega (arith, length_push (rest xs) x))
    (all_words (groups xs) (groups_fit xs))

-- a full rest is one more word
pub bits_more : (ws : List ℕ) (bs : List Bool) → length bs ≡ 64 → flat_map (to_bits 64) (ws ++ from_bits bs ∷ []) ≡ flat_map (to_bits 64) ws ++ bs
bits_more ws bs h =
    joined_append (to_bits 64) ws (from_bits bs ∷ []) ∙ ap (λ ys. flat_map (to_bits 64) ws ++ ys) (append-nil (to_bits 64 (from_bits bs)) ∙ word_back bs h)

pub rest-full : (xs : List Bool) (x : Bool) → length (rest xs) ≡ 63 → Stands (xs ++ x ∷ []) (groups xs ++ from_bits (rest xs ++ x ∷ []) ∷ []) []
rest-full xs x h =
    let last = rest xs ++ x ∷ [] in
    let whole : length last ≡ 64 = omega (arith, length_push (rest xs) x) in
    unique (xs ++ x ∷ []) (groups xs ++ from_bits last ∷ []) []
    (split-push xs x ∙ sym (append-nil (flat_map (to_bits 64) (groups xs ++ from_bits last ∷ [])) ∙ bits_more (groups xs) last whole))
    (omega arith)
    (All-append (λ w. w < 2 ^ 64) (groups xs) (from_bits last ∷ []) (all_words (groups xs) (groups_fit xs)) (from_bits-word last (omega arith), tt))

pub every_true : (xs : List Bool) → list_all (λ (_ : Bool). true) xs ≡ true
every_true [] = refl
every_true (x ∷ xs) = every_true xs

held-groups : (xs : List Bool) → length xs ≤ L → Held is_word (groups xs)
held-groups xs h = (groups_fit xs, omega (arith, length-groups xs))

-- the slice of the rest
abbrev tail : List Bool → Slice
tail xs = of_words (from_bits (rest xs) ∷ length (rest xs) ∷ [])

reads-back : (xs : List Bool) → length xs ≤ L → reading_within (leb (length (rest xs)) 63 && leb (64 * length (groups xs) + length (rest xs)) L) (flat_map (to_bits 64) (groups xs) ++ to_bits (length (rest xs)) (from_bits (rest xs))) ≡ reads xs
reads-back xs h =
    let few = le-leb (length (rest xs)) 63 (length_rest xs) in
    let l : 64 * length (groups xs) + length (rest xs) ≤ L = omega (arith, ap length (split xs), length-append (flat_map (to_bits 64) (groups xs)) (rest xs), length_bits (groups xs)) in
    let short = le-leb (64 * length (groups xs) + length (rest xs)) L l in
    rw (few, short, to_bits-from_bits (rest xs)) (ap reads (sym (split xs)))

pub first_none : (p q : Option ℕ) → first_refused p q ≡ None → (p ≡ None) × (q ≡ None)
first_none None q e = (refl, e)
first_none (Some k) q e = (e, cc)

module _ (W : Format ℕ) where
  -- what accepted slices consist of: accepted words and a tail
  pub record Parts (ss : List Slice) (xs : List Bool) : Type 0 where
    pub ws : List ℕ
    pub heavy : weight ss ≡ weight (take W.slots ss) + length (slot ss W.slots).words
    pub least : 2 ≤ length (slot ss W.slots).words
    pub below : Accepted W (take W.slots ss) ws
    pub few : word_of (slot ss W.slots) 1 ≤ 63
    pub short : 64 * length ws + word_of (slot ss W.slots) 1 ≤ L
    pub is : xs ≡ held_bits ws (word_of (slot ss W.slots) 1) (word_of (slot ss W.slots) 0)

  pub parts : (ss : List Slice) (xs : List Bool) → Accepted (bools_format W) ss xs → Parts ss xs
  parts ss xs a =
      let n = W.slots in
      let s = slot ss n in
      let f = first_none (W.sized (take n ss)) (least_words 2 n s) a.fitting in
      let r = after-reads 0 (W.reading (take n ss)) _ xs a.reading in
      let b = in_bounds _ _ xs r.2 in
      let t = and_parts (leb (word_of s 1) 63) (leb (64 * length r.0 + word_of s 1) L) b.0 in
      let cut : ss ≡ take n ss ++ s ∷ [] = sym (take_all (n + 1) ss (omega (arith, a.count))) ∙ take_more ss n (record { words = []; bytes = 0 }) (omega (arith, a.count)) in
      record {
        ws = r.0;
        heavy = omega (arith, ap weight cut, weight-append (take n ss) (s ∷ []));
        least = least_words_lem 2 n s f.1;
        below = record { count = length-take-le n ss (omega (arith, a.count)); formed = All-take WellFormed n ss a.formed; fitting = f.0; reading = r.1 };
        few = leb-true (word_of s 1) 63 t.0;
        short = leb-true (64 * length r.0 + word_of s 1) L t.1;
        is = sym b.1;
      }

module _ (W : Format ℕ) (laws : Laws is_word W) where
  shape : (xs : List Bool) → length xs ≤ L → (length ((bools_format W).writing xs) ≡ W.slots + 1) × AllByRecursion WellFormed ((bools_format W).writing xs) × AllByRecursion ZeroPadded ((bools_format W).writing xs)
  shape xs h =
      let g = laws.shape (groups xs) (held-groups xs h) in
      let r = length_rest xs in (
        length_push (W.writing (groups xs)) (tail xs) ∙ ap (λ n. n + 1) g.0,
        All-append WellFormed (W.writing (groups xs)) (tail xs ∷ []) g.1 (((from_bits-word (rest xs) (omega arith), (omega arith, tt)), refl), tt),
        All-append ZeroPadded (W.writing (groups xs)) (tail xs ∷ []) g.2 (tt, tt),
      )

  return : (xs : List Bool) → length xs ≤ L → ((bools_format W).sized ((bools_format W).writing xs) ≡ None) × ((bools_format W).reading ((bools_format W).writing xs) ≡ reads xs)
  return xs h =
      let k = held-groups xs h in
      let n = (laws.shape (groups xs) k).0 in
      let g = laws.return (groups xs) k in
      let below = take_at (W.writing (groups xs)) (tail xs ∷ []) W.slots n in
      let last = get_or_at (W.writing (groups xs)) (tail xs) [] (record { words = []; bytes = 0 }) W.slots n in
      (rw (below, last, g.0), rw (below, last, g.1) (reads-back xs h))

  sound : (ss : List Slice) (xs : List Bool) → Accepted (bools_format W) ss xs → length xs ≤ L
  sound ss xs a =
      let p = parts W ss xs a in
      let n = word_of (slot ss W.slots) 1 in
      let w = word_of (slot ss W.slots) 0 in
      omega (arith, p.short, ap length p.is, length-append (flat_map (to_bits 64) p.ws) (to_bits n w), length_bits p.ws, length-to_bits n w)

  least : (ss : List Slice) (xs : List Bool) → Accepted (bools_format W) ss xs → weight ((bools_format W).writing xs) ≤ weight ss
  least ss xs a =
      let p = parts W ss xs a in
      let n = word_of (slot ss W.slots) 1 in
      let w = word_of (slot ss W.slots) 0 in
      let h = laws.sound (take W.slots ss) p.ws p.below in
      let u = unique xs p.ws (to_bits n w) p.is (omega (arith, p.few, length-to_bits n w)) (all_words p.ws h.0) in
      omega (
        arith,
        p.heavy,
        p.least,
        laws.least (take W.slots ss) p.ws p.below,
        ap (λ ws. weight (W.writing ws)) u.0,
        weight-append (W.writing (groups xs)) (tail xs ∷ []),
      )

  given : (ss : List Slice) (xs : List Bool) → Accepted (bools_format W) ss xs → Accepted (bools_format W) ((bools_format W).giving ss) xs × AllByRecursion ZeroPadded ((bools_format W).giving ss)
  given ss xs a =
      let n = W.slots in
      let t = (slot ss n).words in
      let b = (parts W ss xs a).below in
      let g = laws.given (take n ss) _ b in
      let gs = W.giving (take n ss) in
      let below = take_at gs (of_words t ∷ []) n g.0.count in
      let last = get_or_at gs (of_words t) [] (record { words = []; bytes = 0 }) n g.0.count in (
        record {
          count = length_push gs (of_words t) ∙ ap (λ m. m + 1) g.0.count;
          formed = All-append WellFormed gs (of_words t ∷ []) g.0.formed (of_words-formed t (slot-formed ss n (omega (arith, a.count)) a.formed).0, tt);
          fitting = rw (below, last, g.0.fitting) (rw b.fitting at a.fitting);
          reading = rw (below, last, g.0.reading) (rw b.reading at a.reading);
        },
        All-append ZeroPadded gs (of_words t ∷ []) g.1 (of_words_padded t, tt),
      )

  pub bools_laws : Laws (λ (_ : Bool). true) (bools_format W)
  bools_laws = record {
    shape = λ xs h. shape xs h.1;
    return = λ xs h. return xs h.1;
    sound = λ ss xs a. (every_true xs, sound ss xs a);
    least = least;
    given = given;
  }

-- Words, and a tail of the n bits of w after them.
module _ (ws : List ℕ) (n w : ℕ) where
  pub length-held : length (held_bits ws n w) ≡ 64 * length ws + n
  length-held = length-append (flat_map (to_bits 64) ws) (to_bits n w) ∙ ap₂ (λ x y. x + y) (length_bits ws) (length-to_bits n w)

  -- m words hold as many elements as their list has
  pub bools_counted : {m : ℕ} → m ≡ length ws → 64 * m + n ≡ length (held_bits ws n w)
  bools_counted p = omega (arith, p, length-held)

  pub bools_held : 64 * length ws + n ≤ L → Held (λ (_ : Bool). true) (held_bits ws n w)
  bools_held short = (every_true (held_bits ws n w), omega (arith, length-held))

  module _ (words : Held is_word ws) (few : n ≤ 63) where
    pub held_stands : Stands (held_bits ws n w) ws (to_bits n w)
    held_stands = unique (held_bits ws n w) ws (to_bits n w) refl (omega (arith, length-to_bits n w)) (all_words ws words.0)

    -- how many elements stand after the full groups
    pub length-tail : length (rest (held_bits ws n w)) ≡ n
    length-tail = ap length held_stands.1 ∙ length-to_bits n w

    -- what a column's slices are, from those of the column below
    pub bools_written : (W : Format ℕ) (ss : List Slice) → ss ≡ W.writing ws → w < 2 ^ n → ss ++ tail_slice w n ∷ [] ≡ (bools_format W).writing (held_bits ws n w)
    bools_written W ss written clean =
        ap₂ (λ rs t. rs ++ t ∷ []) (written ∙ ap W.writing (sym held_stands.0))
        (ap₂ tail_slice (sym (ap from_bits held_stands.1 ∙ from_bits-to_bits n w clean)) (sym length-tail))

-- the slices of words, and a tail's
pub bools_formed : (n w : ℕ) → n ≤ 63 → w < 2 ^ n → (ss : List Slice) → AllByRecursion WellFormed ss → AllByRecursion WellFormed (ss ++ tail_slice w n ∷ [])
bools_formed n w few clean ss h =
    let p : 0 < 2 = omega arith in
    let m : n ≤ 64 = omega arith in
    All-append WellFormed ss (tail_slice w n ∷ []) h (of_words-formed (w ∷ n ∷ []) (omega (arith, pow-le-pow_right p m), (omega arith, tt)), tt)
