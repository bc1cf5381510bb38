-- Images: how long they are, where each slice stands, what a slice's length tells, and what the writers leave.
use Rattle.std.proofs.Common.{◌≡◌, ℕ, zero, suc, ◌+◌, ◌*◌, ◌<◌, ◌≤◌, min, ◌&&◌, leb, List, [], ◌∷◌, ◌++◌, length, get_or, slice_index, take, drop, set, IsErrAnd, Ok, Err, Result, sym, refl, ap, ◌∙◌, append-nil, add-one, arith, length-append, take-append-drop}
use borrow.Rule.Slice.PartMut.{put_mid}
use lib.Seq.{paste}
use Rattle.std.specs.Int.{div_ceil, next_multiple_of}
use Rattle.std.specs.List.{between, AllByRecursion}
use Rattle.std.proofs.ByRecursion.{All-get_or}
use Rattle.std.proofs.lemmas.List.Edits.{length-between, paste_more, paste-paste}
use Rattle.std.proofs.lemmas.List.{take_more, take_all, drop_all}
use Rattle.std.proofs.lemmas.Slice.{put_mid-paste}
use Rattle.std.proofs.lemmas.Result.{err_from_is_err_and}
use Rattle.std.proofs.lemmas.Bool.{and_from, cond-true, le-leb}
use Rattle.std.proofs.lemmas.Bool.Decides.{nat_tests}
use Rattle.area.specs.Fault.{refuse}
use Rattle.area.specs.Slice.{Slice, WellFormed, round_up, words_for, weight}
use Rattle.area.specs.declared.fault.Fault.{Fault}
use Rattle.area.specs.declared.fault.Refusal.TheVariants.{ImageTooLong}
use Rattle.area.proofs.DigitLemmas.{joined_append}
use Rattle.area.proofs.SliceLemmas.{weight-append}
use Rattle.column.specs.Column.{slice_length, word_in_slice}
use Rattle.column.specs.Kind.{CAP, slot}
use Rattle.column.proofs.ColumnLemmas.{element_at_lem}
use Rattle.indexed.specs.Image.{ends, index, words_of, image, word_length_answer, encode_answer, encoded}

pub length-ends : (p : ℕ) (ss : List Slice) → length (ends p ss) ≡ length ss
length-ends p [] = refl
length-ends p (s ∷ ss) = ap suc (length-ends (round_up (p + s.bytes)) ss)

pub length-words_of : (ss : List Slice) → length (words_of ss) ≡ weight ss
length-words_of [] = refl
length-words_of (s ∷ ss) = rw (length-append, length-words_of ss)

-- the words of an image: one, one more for each slice, and the slices'
pub length-image : (ss : List Slice) → length (image ss) ≡ 1 + length ss + weight ss
length-image ss = rw (length-append, length-ends, length-words_of) (omega arith)

-- one slice more
pub weight_more : (ss : List Slice) (k : ℕ) → k < length ss → weight (take (k + 1) ss) ≡ weight (take k ss) + length (slot ss k).words
weight_more ss k h = rw (take_more ss k (record { words = []; bytes = 0 }) h, weight-append) (omega arith)

pub words_of_more : (ss : List Slice) (k : ℕ) → k < length ss → words_of (take (k + 1) ss) ≡ words_of (take k ss) ++ (slot ss k).words
words_of_more ss k h =
    rw (take_more ss k (record { words = []; bytes = 0 }) h, joined_append) (ap (λ ws. words_of (take k ss) ++ ws) (append-nil (slot ss k).words))

pub weight-take : (ss : List Slice) (k : ℕ) → weight (take k ss) ≤ weight ss
weight-take ss k = omega (arith, sym (weight-append (take k ss) (drop k ss)) ∙ ap weight (take-append-drop k ss))

-- a slice has the words that its bytes take
pub length-slot : (ss : List Slice) (k : ℕ) → AllByRecursion WellFormed ss → k < length ss → length (slot ss k).words ≡ words_for (slot ss k).bytes
length-slot ss k w h = (All-get_or WellFormed ss k (record { words = []; bytes = 0 }) h w).1

-- what the length of a slice tells
pub length_ok : (ss : List Slice) (k n : ℕ) → Ok n ≡ slice_length ss k → (n ≡ (slot ss k).bytes) × (k < length ss) × (n ≤ 8 * CAP)
length_ok ss k n h = grind (arith, nat_tests)

pub length_known : (ss : List Slice) (k n : ℕ) → Ok n ≡ slice_length ss k → slice_length ss k ≡ Ok (slot ss k).bytes
length_known ss k n h = sym h ∙ ap Ok (length_ok ss k n h).0

pub length_err : (ss : List Slice) (k : ℕ) (f : Fault) → k < min (length ss) CAP → Err f ≡ slice_length ss k → (f ≡ refuse ImageTooLong 0) × (8 * CAP < (slot ss k).bytes)
length_err ss k f l h = grind (arith, nat_tests)

pub long_err : (ss : List Slice) (k : ℕ) (f : Fault) → AllByRecursion WellFormed ss → k < min (length ss) CAP → Err f ≡ slice_length ss k → (f ≡ refuse ImageTooLong 0) × (CAP < length (image ss))
long_err ss k f w l h =
    let q = length_err ss k f l h in
    (q.0, omega (arith, q.1, length-image ss, weight_more ss k (omega arith), length-slot ss k w (omega arith), weight-take ss (k + 1)))

-- the two answers
pub too_long : (ss : List Slice) (f : Fault) → f ≡ refuse ImageTooLong 0 → CAP < length (image ss) → Err f ≡ word_length_answer ss
too_long ss f e l = grind (arith, nat_tests)

pub short : (ss : List Slice) (n : ℕ) → n ≡ length (image ss) → n ≤ CAP → Ok n ≡ word_length_answer ss
short ss n e l = grind (arith, nat_tests)

-- the exit of a `?` at such a slice
pub exit_long : {r : Result ℕ Fault} (ss : List Slice) (k : ℕ) (f : Fault) → IsErrAnd r (λ y. y ≡ f) → AllByRecursion WellFormed ss → k < min (length ss) CAP → Err f ≡ slice_length ss k → r ≡ word_length_answer ss
exit_long {r} ss k f e w l h =
    let p = err_from_is_err_and r e in
    let q = long_err ss k f w l h in
    p.1 ∙ too_long ss p.0 (p.2 ∙ q.0) q.1

-- the words of a slice as the loops count them
pub words_turn : (ss : List Slice) (k n m : ℕ) → AllByRecursion WellFormed ss → Ok n ≡ slice_length ss k → m ≡ div_ceil n 8 → m ≡ length (slot ss k).words
words_turn ss k n m w h e = let q = length_ok ss k n h in omega (arith, q.0, length-slot ss k w q.1)

pub weight_turn : (ss : List Slice) (k n m : ℕ) → AllByRecursion WellFormed ss → Ok n ≡ slice_length ss k → m ≡ div_ceil n 8 → weight (take (k + 1) ss) ≡ weight (take k ss) + m
weight_turn ss k n m w h e = omega (arith, words_turn ss k n m w h e, weight_more ss k (length_ok ss k n h).1)

-- each end from the one before it, and how large the ends are
ends_next : (e : ℕ) (ss : List Slice) (k : ℕ) → k < length ss → get_or (ends (round_up e) ss) k 0 ≡ round_up (get_or (e ∷ ends (round_up e) ss) k 0) + (slot ss k).bytes
ends_next e [] k l = absurd (omega arith)
ends_next e (s ∷ ss) zero l = refl
ends_next e (s ∷ ss) (suc k) l = ends_next (round_up e + s.bytes) ss k (omega arith)

-- where a slice ends, if the first starts at word q
pub get_or-ends : (ss : List Slice) (q k : ℕ) → AllByRecursion WellFormed ss → k < length ss → get_or (ends (8 * q) ss) k 0 ≡ 8 * (q + weight (take k ss)) + (slot ss k).bytes
get_or-ends [] q k w l = absurd (omega arith)
get_or-ends (s ∷ ss) q zero w l = omega arith
get_or-ends (s ∷ ss) q (suc k) w l =
    let e : words_for (8 * q + s.bytes) ≡ q + length s.words = omega (arith, w.0.1) in
    rw e (get_or-ends ss (q + length s.words) k w.1 (omega arith) ∙ omega arith)

ends_below : (ss : List Slice) (q k : ℕ) → AllByRecursion WellFormed ss → k < length ss → get_or (ends (8 * q) ss) k 0 ≤ 8 * (q + weight ss)
ends_below ss q k w l = omega (arith, get_or-ends ss q k w l, length-slot ss k w l, weight_more ss k l, weight-take ss (k + 1))

-- the same of the index
pub index_next : (ss : List Slice) (k n e : ℕ) → Ok n ≡ slice_length ss k → e ≡ slice_index (index ss) k → next_multiple_of e 8 + n ≡ slice_index (index ss) (k + 1)
index_next ss k n e h a =
    let q = length_ok ss k n h in
    let r : round_up (8 * (1 + length ss)) ≡ 8 * (1 + length ss) = omega arith in
    let x = rw r at (ends_next (8 * (1 + length ss)) ss k q.1) in
    rw add-one (omega (arith, a, q.0, x))

pub index_below : (ss : List Slice) (k e : ℕ) → AllByRecursion WellFormed ss → length (image ss) ≤ CAP → k ≤ length ss → e ≡ slice_index (index ss) k → e ≤ 8 * CAP
index_below ss zero e w m l a = omega (arith, length-image ss)
index_below ss (suc k) e w m l a = omega (arith, length-image ss, a, ends_below ss (1 + length ss) k w l)

pub length-index : (ss : List Slice) → length (index ss) ≡ 1 + length ss
length-index ss = omega (arith, length-ends (8 * (1 + length ss)) ss)

-- a loop that copies s over d from `at` on
pub paste_turn : (d : List ℕ) (at : ℕ) (s : List ℕ) (part : List ℕ) (i j v : ℕ) → part ≡ paste d at s i → j ≡ at + i → v ≡ get_or s i 0 → at + i < length d → i < length s → set part j v ≡ paste d at s (i + 1)
paste_turn d at s part i j v a b c l m = rw (a, b, c) (paste_more d at s i 0 l m)

-- as many words written over as many
pub paste_over : (d s : List ℕ) (n : ℕ) → length d ≡ length s → n ≡ length s → paste d 0 s n ≡ s
paste_over d s n a b = rw (take_all n s (omega arith), drop_all (0 + n) d (omega arith)) (append-nil s)

-- a word of a slice that has a length
pub word_ok : (ss : List Slice) (k i : ℕ) → slice_length ss k ≡ Ok (slot ss k).bytes → i < length (slot ss k).words → word_in_slice ss k i ≡ Ok (get_or (slot ss k).words i 0)
word_ok ss k i h l = rw (h, word_in_slice) (element_at_lem (slot ss k).words i 0 l)

-- the next slice has room in a part of n words, of which the slices take what is after `at`
pub slice_room : (ss : List Slice) (k b m at place n : ℕ) → AllByRecursion WellFormed ss → Ok b ≡ slice_length ss k → m ≡ div_ceil b 8 → place ≡ at + weight (take k ss) → at + length (words_of ss) ≤ n → place + m ≤ n
slice_room ss k b m at place n w h e p l = omega (arith, weight_turn ss k b m w h e, weight-take ss (k + 1), length-words_of ss)

-- one slice more is written, where b is m as the borrow of a part gives it
pub slices_turn : (ss : List Slice) (d : List ℕ) (at k place m b : ℕ) (part ys : List ℕ) → k < length ss → at ≤ length d → m ≡ length (slot ss k).words → m ≡ b → place ≡ at + weight (take k ss) → part ≡ paste d at (words_of (take k ss)) (weight (take k ss)) → ys ≡ (slot ss k).words → put_mid place b part ys ≡ paste d at (words_of (take (k + 1) ss)) (weight (take (k + 1) ss))
slices_turn ss d at k place m b part ys l f n e a p y =
    put_mid-paste place b part ys (slot ss k).words m y e n
    ∙ (λ i. paste (p i) (a i) (slot ss k).words m)
    ∙ paste-paste d at (words_of (take k ss)) (slot ss k).words (weight (take k ss)) m (sym (length-words_of (take k ss))) n f
    ∙ (let o : weight (take k ss) + m ≡ weight (take (k + 1) ss) = omega (arith, weight_more ss k l) in λ i. paste d at (sym (words_of_more ss k l) i) (o i))

pub slices_written : (ss : List Slice) (d : List ℕ) (at k : ℕ) → length ss ≤ k → paste d at (words_of (take k ss)) (weight (take k ss)) ≡ paste d at (words_of ss) (length (words_of ss))
slices_written ss d at k l = rw (take_all k ss l, length-words_of ss)

-- what the length of an image tells
pub words_ok : (ss : List Slice) (n : ℕ) → Ok n ≡ word_length_answer ss → (n ≡ length (image ss)) × (length (image ss) ≤ CAP)
words_ok ss n h = grind (arith, nat_tests)

pub encode_answer_lem : (ss : List Slice) (area : List ℕ) (place n : ℕ) → Ok n ≡ word_length_answer ss → place + n ≤ length area → Ok n ≡ encode_answer ss area place
encode_answer_lem ss area place n h l = grind (arith, nat_tests)

pub encode_after : (ss : List Slice) (area : List ℕ) (place n b : ℕ) (ys : List ℕ) → Ok n ≡ word_length_answer ss → place + n ≤ length area → n ≡ b → ys ≡ image ss → put_mid place b area ys ≡ encoded ss area place
encode_after ss area place n b ys h l e y =
    let q = words_ok ss n h in
    put_mid-paste place b area ys (image ss) n y e q.0
    ∙ ap (paste area place (image ss)) q.0
    ∙ sym (cond-true (leb (length (image ss)) CAP && leb (place + length (image ss)) (length area)) _ _ (and_from _ _ (le-leb _ _ q.1) (le-leb _ _ (omega (arith, q.0)))))

-- the part of an area that the writers are lent has just the image's words
pub length-part : (ss : List Slice) (area : List ℕ) (place n : ℕ) → Ok n ≡ word_length_answer ss → place + n ≤ length area → length (between place (place + n) area) ≡ length (image ss)
length-part ss area place n h l = length-between area place (place + n) l ∙ omega (arith, (words_ok ss n h).0)

-- what they leave of it
pub image_left : (ss : List Slice) (d part last : List ℕ) (at : ℕ) → at ≡ 0 + length (index ss) → length d ≡ length (image ss) → part ≡ paste d 0 (index ss) (length (index ss)) → last ≡ paste part at (words_of ss) (length (words_of ss)) → last ≡ image ss
image_left ss d part last at a l p e =
    e
    ∙ (λ i. paste (p i) (a i) (words_of ss) (length (words_of ss)))
    ∙ paste-paste d 0 (index ss) (words_of ss) (length (index ss)) (length (words_of ss)) refl refl (omega arith)
    ∙ paste_over d (image ss) (length (index ss) + length (words_of ss)) l (sym (length-append (index ss) (words_of ss)))

pub err_not_ok : {X E : Type 0} {f : E} {x : X} → Err f ≡ Ok x → ⊥
err_not_ok h = let z : ◌≡◌ {A = ℕ} 0 1 = cc in omega arith
