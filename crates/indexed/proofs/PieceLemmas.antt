-- Pieces that a sink is given one after the other.
use Rattle.std.proofs.Common.{◌≡◌, ℕ, w64, zero, suc, ◌+◌, ◌-◌, ◌*◌, ◌%◌, ◌<◌, ◌≤◌, min, cond, eqb, leb, List, [], ◌∷◌, ◌++◌, map, length, get_or, take, drop, replicate, Some, Ok, Err, Result, IsErrAnd, sym, refl, ap, ◌∙◌, subst, ap₂, ⊎_elim, append_assoc, append-nil, arith, length-append, length-drop, take-append-drop, length-take, take_all, take-take, drop-drop, take_at}
use native.Mathlib.Nat.{div-div-eq-div-mul, sub-zero}
use lib.ListN.{length-map}
use lib.Seq.{take-length, split_at, get_or_at}
use Rattle.std.specs.Int.{div_ceil, to_le_bytes}
use Rattle.std.specs.List.{flat_map, AllByRecursion}
use Rattle.std.proofs.lemmas.List.{take_more, get_or-map, drop-replicate, take-replicate}
use Rattle.std.proofs.lemmas.Result.{err_from_is_err_and}
use Rattle.std.proofs.lemmas.Slice.{between_is}
use Rattle.std.proofs.lemmas.Bool.{cases_lt, lt-ltb, le-leb, lt-leb, eq-eqb, ne_eqb, cond-true, cond-false}
use Rattle.std.proofs.lemmas.Bool.Decides.{nat_tests}
use Rattle.area.specs.Digits.{digits, chunks}
use Rattle.area.specs.Fault.{refuse}
use Rattle.area.proofs.SliceLemmas.{length-contents, length-spill}
use Rattle.area.specs.Slice.{Slice, WellFormed, ZeroPadded, words_for, spill, contents, weight}
use Rattle.area.specs.declared.fault.Refusal.TheVariants.{NoRoom}
use Rattle.area.proofs.DigitLemmas.{all_length_digits, chunks_joined_all, get_or-chunks, joined_append, joined_chunks, length-chunks}
use Rattle.storage.specs.declared.write.WriteBytes.{Ghosts as SinkMembers}
use Rattle.std.specs.List.{slice_get}
use Rattle.storage.proofs.StoreLemmas.{slice_get_found}
use Rattle.storage.specs.Sink.{piece_answer, taking, room_after, leaving}
use Rattle.column.specs.Column.{slice_length, word_in_slice}
use Rattle.column.specs.Kind.{CAP, slot, word_of}
use Rattle.indexed.specs.Gives.{Took, Stopped, Gives}
use Rattle.indexed.specs.Image.{image, index}
use Rattle.indexed.specs.Pieces.{joined, Given, Written, pieces, slice_pieces, padding, given, Gave}
use Rattle.indexed.specs.declared.write.Counted.{Counted}
use Rattle.indexed.specs.declared.write.WriteFault.{WriteFault}
use Rattle.indexed.specs.declared.write.WriteFault.TheVariants.{Full}
use Rattle.indexed.proofs.ImageLemmas.{length-ends, length-image, length_ok, length_known, length-slot, word_ok, weight_more, weight-take}

-- how many pieces are given: all that fit, or those before the first that does not
given_all : (room : ℕ) (ps : List (List ℕ)) → length (joined ps) ≤ room → given room ps ≡ length ps
given_all room [] h = refl
given_all room (p ∷ ps) h =
    let l = length-append p (joined ps) in
    rw (le-leb (length p) room (omega arith)) (ap suc (given_all (room - length p) ps (omega arith)))

given-front : (room : ℕ) (front : List (List ℕ)) (p : List ℕ) (others : List (List ℕ)) → length (joined front) ≤ room → room - length (joined front) < length p → given room (front ++ p ∷ others) ≡ length front
given-front room [] p others h k = rw (lt-leb (length p) room (omega arith))
given-front room (x ∷ front) p others h k =
    let l = length-append x (joined front) in
    rw (le-leb (length x) room (omega arith)) (ap suc (given-front (room - length x) front p others (omega arith) (omega arith)))

-- what a sink's refusal of a piece tells
piece_refused : {F : Type 0} (room : ℕ) (bs : List ℕ) (f e : F) → Err e ≡ piece_answer room bs f → (e ≡ f) × (room < length bs)
piece_refused room bs f e h = grind (arith, nat_tests)

-- the bytes of a word
le_bytes : (w : ℕ) → to_le_bytes w64 w ≡ digits 256 8 w
le_bytes w = simp div-div-eq-div-mul

-- the piece of word i
pub piece_of : (ws : List ℕ) (i w : ℕ) (bs : List ℕ) → i < length ws → w ≡ get_or ws i 0 → bs ≡ to_le_bytes w64 w → (i < length (map (digits 256 8) ws)) × (bs ≡ get_or (map (digits 256 8) ws) i [])
piece_of ws i w bs l e q = (omega (arith, length-map ws (digits 256 8)), q ∙ le_bytes w ∙ ap (digits 256 8) e ∙ sym (get_or-map (digits 256 8) ws i 0 [] l))

-- each slice of a short image has a length
pub length_there : (ss : List Slice) (k : ℕ) → AllByRecursion WellFormed ss → k < length ss → length (image ss) ≤ CAP → slice_length ss k ≡ Ok (slot ss k).bytes
length_there ss k w h l =
    let m : length ss < CAP = omega (arith, length-image ss) in
    let b : (slot ss k).bytes ≤ 8 * CAP = omega (arith, length-image ss, weight_more ss k h, length-slot ss k w h, weight-take ss (k + 1)) in
    cond-true _ _ _ (lt-ltb k (min (length ss) CAP) (omega arith)) ∙ cond-true _ _ _ (le-leb (slot ss k).bytes (8 * CAP) b)

take_both : {X : Type 0} (m n c : ℕ) (xs : List X) → c ≡ min n m → take m (take n xs) ≡ take c xs
take_both m n c xs e = ⊎_elim short long (cases_lt m n)
  where
    short : m < n → take m (take n xs) ≡ take c xs
    short l = take-take m n xs (omega arith) ∙ ap (λ k. take k xs) (omega arith)

    long : n ≤ m → take m (take n xs) ≡ take c xs
    long l = take_all m (take n xs) (omega (arith, length-take n xs)) ∙ ap (λ k. take k xs) (omega arith)

-- piece i of a slice's words: word i, cut to the c bytes that are left
word_piece : (s : Slice) (i c : ℕ) → WellFormed s → i < words_for s.bytes → c ≡ min (s.bytes - 8 * i) 8 → take c (digits 256 8 (word_of s i)) ≡ get_or (chunks 8 (words_for s.bytes) (contents s)) i []
word_piece s i c w l e =
    let xs = drop (8 * i) (spill s.words) in
    let m : i < length s.words = omega (arith, w.1) in
    let d : digits 256 8 (word_of s i) ≡ take 8 xs =
    sym (get_or-map (digits 256 8) s.words i 0 [] m)
    ∙ ap (λ ps. get_or ps i []) (sym (chunks_joined_all (digits 256 8) 8 s.words (all_length_digits 256 8 s.words)))
    ∙ get_or-chunks 8 (length s.words) (spill s.words) i m in
    ap (take c) d ∙ take-take c 8 xs (omega arith)
    ∙ sym (get_or-chunks 8 (words_for s.bytes) (contents s) i l ∙ ap (take 8) (sym (between_is (spill s.words) (8 * i) s.bytes)) ∙ take_both 8 (s.bytes - 8 * i) c xs e)

-- a turn of the loop over the m words of slice k, which has b bytes
pub word_turn : (ss : List Slice) (k i b m c w : ℕ) (bs : List ℕ) → WellFormed (slot ss k) → slice_length ss k ≡ Ok b → m ≡ div_ceil b 8 → i < m → c ≡ min (b - 8 * i) 8 → Ok w ≡ word_in_slice ss k i → bs ≡ to_le_bytes w64 w → (i < length (chunks 8 (words_for (slot ss k).bytes) (contents (slot ss k)))) × (take c bs ≡ get_or (chunks 8 (words_for (slot ss k).bytes) (contents (slot ss k))) i [])
word_turn ss k i b m c w bs f l e t d h a =
    let s = slot ss k in
    let q = length_ok ss k b (sym l) in
    let n : i < words_for s.bytes = omega (arith, q.0) in
    let x = h ∙ word_ok ss k i (length_known ss k b (sym l)) (omega (arith, f.1)) in
    let y : w ≡ word_of s i = cc in
    (omega (arith, length-chunks 8 (words_for s.bytes) (contents s)), ap (take c) (a ∙ le_bytes w ∙ ap (digits 256 8) y) ∙ word_piece s i c f n (d ∙ ap (λ z. min (z - 8 * i) 8) q.0))

-- the padding after n bytes of a word, as a part of eight zeros
pub padding_some : (n : ℕ) → 0 < n → padding n ≡ take (8 - n) (drop n (replicate 8 0)) ∷ []
padding_some zero l = absurd (omega arith)
padding_some (suc n) l =
    ap (λ p. p ∷ []) (sym (ap (take (8 - suc n)) (drop-replicate (suc n) 8 0) ∙ take-replicate (8 - suc n) (8 - suc n) 0 (omega arith)))

-- the slices before slice k, and slice k
pub pieces_more : (ss : List Slice) (k : ℕ) → k < length ss → flat_map slice_pieces (take (k + 1) ss) ≡ flat_map slice_pieces (take k ss) ++ slice_pieces (slot ss k)
pieces_more ss k h = rw (take_more ss k (record { words = []; bytes = 0 }) h, joined_append) (ap (λ ps. flat_map slice_pieces (take k ss) ++ ps) (append-nil (slice_pieces (slot ss k))))

pub pieces-split : (ss : List Slice) (k : ℕ) → k < length ss → flat_map slice_pieces ss ≡ (flat_map slice_pieces (take k ss) ++ slice_pieces (slot ss k)) ++ flat_map slice_pieces (drop (k + 1) ss)
pieces-split ss k h = ap (flat_map slice_pieces) (sym (take-append-drop (k + 1) ss)) ∙ joined_append slice_pieces (take (k + 1) ss) (drop (k + 1) ss) ∙ ap (λ ps. ps ++ flat_map slice_pieces (drop (k + 1) ss)) (pieces_more ss k h)

-- a number for each piece fits a word
length-padding : (n : ℕ) → length (padding n) ≤ 1
length-padding zero = omega arith
length-padding (suc n) = omega arith

length_slices : (ss : List Slice) → AllByRecursion WellFormed ss → length (flat_map slice_pieces ss) ≤ weight ss + length ss
length_slices [] w = omega arith
length_slices (s ∷ ss) w =
    omega (arith, length_slices ss w.1, w.0.1, length-padding (s.bytes % 8), length-append (slice_pieces s) (flat_map slice_pieces ss), length-append (chunks 8 (words_for s.bytes) (contents s)) (padding (s.bytes % 8)), length-chunks 8 (words_for s.bytes) (contents s))

pub length-pieces : (ss : List Slice) → AllByRecursion WellFormed ss → length (image ss) ≤ CAP → length (pieces ss) ≤ 18446744073709551615
length-pieces ss w l =
    omega (arith, length_slices ss w, length-image ss, length-append (map (digits 256 8) (index ss)) (flat_map slice_pieces ss), length-map (index ss) (digits 256 8), length-ends (8 * (1 + length ss)) ss)

-- the words of a store as pieces
pub store_turn : (ws : List ℕ) (i w : ℕ) (bs : List ℕ) → Some w ≡ slice_get ws i → bs ≡ to_le_bytes w64 w → (i < length (map (digits 256 8) ws)) × (bs ≡ get_or (map (digits 256 8) ws) i [])
store_turn ws i w bs e q = let r = slice_get_found ws i w e in piece_of ws i w bs r.0 (sym r.1) q

-- the pieces of zero-padded slices joined are the bytes of the image's words
zeros : (bs : List ℕ) → AllByRecursion (λ b. b ≡ 0) bs → bs ≡ replicate (length bs) 0
zeros [] h = refl
zeros (b ∷ bs) h = ap₂ ◌∷◌ h.0 (zeros bs h.1)

joined-padding : (n : ℕ) → joined (padding n) ≡ replicate ((8 - n) % 8) 0
joined-padding zero = refl
joined-padding (suc n) = append-nil (replicate (8 - suc n) 0) ∙ ap (λ m. replicate m 0) (omega arith)

joined_slice : (s : Slice) → WellFormed s → ZeroPadded s → joined (slice_pieces s) ≡ spill s.words
joined_slice s w z =
    let n : ℕ = words_for s.bytes in
    let l = length-contents s w in
    let k = length-spill s.words in
    let d = length-drop s.bytes (spill s.words) in
    let e : length (drop s.bytes (spill s.words)) ≡ (8 - s.bytes % 8) % 8 = omega (arith, w.1) in
    joined_append (λ p. p) (chunks 8 n (contents s)) (padding (s.bytes % 8))
    ∙ ap₂ ◌++◌ (joined_chunks 8 n (contents s) ∙ take_all (8 * n) (contents s) (omega arith)) (joined-padding (s.bytes % 8) ∙ ap (λ m. replicate m 0) (sym e) ∙ sym (zeros (drop s.bytes (spill s.words)) z))
    ∙ take-append-drop s.bytes (spill s.words)

joined_slices : (ss : List Slice) → AllByRecursion WellFormed ss → AllByRecursion ZeroPadded ss → joined (flat_map slice_pieces ss) ≡ spill (flat_map (λ s. s.words) ss)
joined_slices [] w z = refl
joined_slices (s ∷ ss) w z =
    joined_append (λ p. p) (slice_pieces s) (flat_map slice_pieces ss)
    ∙ ap₂ ◌++◌ (joined_slice s w.0 z.0) (joined_slices ss w.1 z.1)
    ∙ sym (joined_append (digits 256 8) s.words (flat_map (λ s. s.words) ss))

joined-words : (ws : List ℕ) → joined (map (digits 256 8) ws) ≡ spill ws
joined-words [] = refl
joined-words (w ∷ ws) = ap (λ bs. digits 256 8 w ++ bs) (joined-words ws)

pub pieces-spill : (ss : List Slice) → AllByRecursion WellFormed ss → AllByRecursion ZeroPadded ss → joined (pieces ss) ≡ spill (image ss)
pieces-spill ss w z =
    joined_append (λ p. p) (map (digits 256 8) (index ss)) (flat_map slice_pieces ss)
    ∙ ap₂ ◌++◌ (joined-words (index ss)) (joined_slices ss w z)
    ∙ sym (joined_append (digits 256 8) (index ss) (flat_map (λ s. s.words) ss))

all_given : {F : Type 0} (n m : ℕ) (f : F) → ◌≡◌ {A = Result (Unit {0}) F} (Ok tt) (cond (eqb n m) (Ok tt) (Err f)) → n ≡ m
all_given n m f h = grind (arith, nat_tests)

module _ {W F : Type 0} {sink : SinkMembers W F} where
  pub took_none : (c : Counted W) → Took sink [] c c
  took_none c = record { same = refl; count = omega arith; fits = omega arith; bytes = sym (append-nil (sink.taken c.sink.now)); left = omega arith; rest = refl }

  pub took-append : {ps qs : List (List ℕ)} {c d e : Counted W} → Took sink ps c d → Took sink qs d e → Took sink (ps ++ qs) c e
  took-append {ps} {qs} {c} {d} {e} a b =
      let j = joined_append (λ p. p) ps qs in
      let l : length (joined (ps ++ qs)) ≡ length (joined ps) + length (joined qs) = ap length j ∙ length-append (joined ps) (joined qs) in
      record {
        same = b.same ∙ a.same;
        count = omega (arith, a.count, b.count, length-append ps qs);
        fits = omega (arith, a.fits, b.fits, a.left);
        bytes = b.bytes ∙ ap (λ bs. bs ++ joined qs) a.bytes ∙ append_assoc (sink.taken c.sink.now) (joined ps) (joined qs) ∙ ap (λ bs. sink.taken c.sink.now ++ bs) (sym j);
        left = omega (arith, a.left, b.left);
        rest = b.rest ∙ ap (drop (length (joined qs))) a.rest ∙ drop-drop (length (joined qs)) (length (joined ps)) (sink.beyond c.sink.now) ∙ ap (λ k. drop k (sink.beyond c.sink.now)) (sym l);
      }

  -- a stop after pieces that were given, and before others
  pub stop_after : {ps qs : List (List ℕ)} {c d e : Counted W} {f : WriteFault F} → Took sink ps c d → Stopped sink qs d e f → Stopped sink (ps ++ qs) c e f
  stop_after {ps} {qs} a b =
      record {
        front = ps ++ b.front;
        piece = b.piece;
        others = b.others;
        split = ap (λ rs. ps ++ rs) b.split ∙ sym (append_assoc ps b.front (b.piece ∷ b.others));
        took = took-append a b.took;
        full = b.full;
        answer = b.answer;
      }

  pub stop_before : {ps : List (List ℕ)} {c d : Counted W} {f : WriteFault F} (rs : List (List ℕ)) → Stopped sink ps c d f → Stopped sink (ps ++ rs) c d f
  stop_before {ps} rs b =
      record {
        front = b.front;
        piece = b.piece;
        others = b.others ++ rs;
        split = ap (λ qs. qs ++ rs) b.split ∙ append_assoc b.front (b.piece ∷ b.others) rs;
        took = b.took;
        full = b.full;
        answer = b.answer;
      }

  -- the exit of a `?` at a stop
  pub stops : {ps : List (List ℕ)} {c d : Counted W} {f : WriteFault F} (r : Result (Unit {0}) (WriteFault F)) → IsErrAnd r (λ y. y ≡ f) → Stopped sink ps c d f → Gives sink ps c d r
  stops r e h = let p = err_from_is_err_and r e in rw (p.1, p.2) h

  -- a writer after pieces that were given
  pub gives_after : {ps : List (List ℕ)} (qs : List (List ℕ)) {c d : Counted W} (e : Counted W) (r : Result (Unit {0}) (WriteFault F)) → Took sink ps c d → Gives sink qs d e r → Gives sink (ps ++ qs) c e r
  gives_after qs e (Ok x) a b = took-append a b
  gives_after qs e (Err f) a b = stop_after a b

  -- a loop over pieces: one more, or a stop at place i
  pub took_more : (ps : List (List ℕ)) (i : ℕ) (p : List ℕ) {c d e : Counted W} → i < length ps → p ≡ get_or ps i [] → Took sink (take i ps) c d → Took sink (p ∷ []) d e → Took sink (take (i + 1) ps) c e
  took_more ps i p {c} {d} {e} l q a b =
      subst (λ qs. Took sink qs c e) (ap (λ x. take i ps ++ x ∷ []) q ∙ sym (take_more ps i [] l)) (took-append a b)

  pub stop_at : (ps : List (List ℕ)) (i : ℕ) (p : List ℕ) {c d e : Counted W} {f : WriteFault F} → i < length ps → p ≡ get_or ps i [] → Took sink (take i ps) c d → Stopped sink (p ∷ []) d e f → Stopped sink ps c e f
  stop_at ps i p {c} {d} {e} {f} l q a b =
      subst (λ qs. Stopped sink qs c e f)
      (append_assoc (take i ps) (p ∷ []) (drop (suc i) ps) ∙ ap (λ x. take i ps ++ x ∷ drop (suc i) ps) q ∙ sym (split_at ps i [] l))
      (stop_before (drop (suc i) ps) (stop_after a b))

  pub took_all : (ps : List (List ℕ)) (i : ℕ) {c d : Counted W} → length ps ≤ i → Took sink (take i ps) c d → Took sink ps c d
  took_all ps i {c} {d} l a = subst (λ qs. Took sink qs c d) (take_all i ps l) a

  -- one piece that does not fit
  pub stopped_one : (bs : List ℕ) {c d : Counted W} (e : F) {f : WriteFault F} → d.sink.ghost_name ≡ c.sink.ghost_name → d.piece ≡ c.piece → Err e ≡ piece_answer (sink.room c.sink.now) bs (sink.fault d.sink.now bs) → sink.taken d.sink.now ≡ taking (sink.room c.sink.now) (sink.taken c.sink.now) bs → sink.room d.sink.now ≡ room_after (sink.room c.sink.now) bs → sink.beyond d.sink.now ≡ leaving (sink.room c.sink.now) (sink.beyond c.sink.now) bs → f ≡ Full (refuse NoRoom c.piece) e → Stopped sink (bs ∷ []) c d f
  stopped_one bs {c} {d} e n m h x y z g =
      let q = piece_refused (sink.room c.sink.now) bs (sink.fault d.sink.now bs) e h in
      let f = lt-leb (length bs) (sink.room c.sink.now) q.1 in
      let r = y ∙ cond-false (leb (length bs) (sink.room c.sink.now)) (sink.room c.sink.now - length bs) (sink.room c.sink.now) f in
      record {
        front = [];
        piece = bs;
        others = [];
        split = refl;
        took = record {
          same = n;
          count = omega arith;
          fits = omega arith;
          bytes = x ∙ cond-false (leb (length bs) (sink.room c.sink.now)) (sink.taken c.sink.now ++ bs) (sink.taken c.sink.now) f ∙ sym (append-nil (sink.taken c.sink.now));
          left = r ∙ sym (sub-zero (sink.room c.sink.now));
          rest = z ∙ cond-false (leb (length bs) (sink.room c.sink.now)) (drop (length bs) (sink.beyond c.sink.now)) (sink.beyond c.sink.now) f;
        };
        full = omega (arith, q.1, r);
        answer = g ∙ ap (λ k. Full (refuse NoRoom k) e) (sym m) ∙ ap (Full (refuse NoRoom d.piece)) q.0;
      }

  -- what the specification says of it
  gave : {ps : List (List ℕ)} (front : List (List ℕ)) {c d : Counted W} → take (given (sink.room c.sink.now) ps) ps ≡ front → Took sink front c d → Gave sink ps c.sink.now d.sink.now
  gave {ps} front {c} {d} e a = let f = sym (ap joined e) in record { bytes = rw f at a.bytes; left = rw f at a.left; rest = rw f at a.rest }

  answered_by : (ps : List (List ℕ)) (c d : Counted W) (r : Result (Unit {0}) (WriteFault F)) → c.piece ≡ 0 → length ps ≤ 18446744073709551615 → Gives sink ps c d r → Given sink ps c.sink.now d.sink.now r
  answered_by ps c d (Ok x) z l a =
      let g = given_all (sink.room c.sink.now) ps a.fits in
      (sym (cond-true _ _ _ (eq-eqb _ _ g)), gave ps (rw g (take-length ps)) a)
  answered_by ps c d (Err f) z l a =
      let n : ℕ = given (sink.room c.sink.now) ps in
      let g : n ≡ length a.front = ap (given (sink.room c.sink.now)) a.split ∙ given-front (sink.room c.sink.now) a.front a.piece a.others a.took.fits (omega (arith, a.took.left, a.full)) in
      let m : length ps ≡ length a.front + suc (length a.others) = ap length a.split ∙ length-append a.front (a.piece ∷ a.others) in
      let i : d.piece ≡ n = omega (arith, a.took.count) in
      let p : get_or ps n [] ≡ a.piece = ap (λ qs. get_or qs n []) a.split ∙ get_or_at a.front a.piece a.others [] n (sym g) in (
        ap Err (a.answer ∙ cc) ∙ sym (cond-false _ _ _ (ne_eqb n (length ps) (λ e. omega arith))),
        gave a.front (ap (take n) a.split ∙ take_at a.front (a.piece ∷ a.others) n (sym g)) a.took,
      )

  -- the same of the sink that was lent to be counted, which is t after
  pub answered : (ps : List (List ℕ)) (c d : Counted W) {t : W} (r : Result (Unit {0}) (WriteFault F)) → c.piece ≡ 0 → length ps ≤ 18446744073709551615 → Gives sink ps c d r → t ≡ d.sink.now → Given sink ps c.sink.now t r
  answered ps c d r z l a e = rw e (answered_by ps c d r z l a)

  -- what is taken of pieces that were all given
  taken-whole : (ps : List (List ℕ)) (s t : W) (r : Result (Unit {0}) (WriteFault F)) → Given sink ps s t r → r ≡ Ok tt → sink.taken t ≡ sink.taken s ++ joined ps
  taken-whole ps s t r a e =
      let g = all_given (given (sink.room s) ps) (length ps) _ (sym e ∙ a.0) in
      a.1.bytes ∙ ap (λ n. sink.taken s ++ joined (take n ps)) g ∙ ap (λ qs. sink.taken s ++ joined qs) (take-length ps)

  -- a writer of a short image's pieces, whose sink is t after
  pub written : (ss : List Slice) (c d : Counted W) {t : W} (r : Result (Unit {0}) (WriteFault F)) → c.piece ≡ 0 → AllByRecursion WellFormed ss → length (image ss) ≤ CAP → Gives sink (pieces ss) c d r → t ≡ d.sink.now → Written sink ss c.sink.now t r
  written ss c d {t} r z f l a e =
      let b = answered (pieces ss) c d r z (length-pieces ss f l) a e in
      record {
        short = λ _. b;
        whole = λ w p. taken-whole (pieces ss) c.sink.now t r b w ∙ ap (λ bs. sink.taken c.sink.now ++ bs) (pieces-spill ss f p);
        long = λ m. absurd (omega arith);
      }
