-- The claim of the image of a list: it is admitted and reads as it, no other list of a history has it, and no admitted image with the same reading is shorter.
use Rattle.std.proofs.Common.{◌≤◌, Bool, List, length, Some, ap, ◌∙◌, subst, arith}
use Rattle.indexed.specs.Image.{image_of}
use Rattle.column.specs.Kind.{CAP, Format, Held, Laws}
use Rattle.decode.specs.Decode.{slices_of}
use Rattle.decode.proofs.DecodeLemmas.{asked_uncounted}
use Rattle.indexed.proofs.ImageLemmas.{length-image}
use Rattle.stash.specs.Claim.{Claim}
use Rattle.stash.proofs.AdmitLemmas.{admission_parts, admitted-accepted, image-admitted, words_hold, written-accepted}
use Rattle.stash.proofs.HistoryLemmas.{history-holds}

module _ {E : Type 0} (fits : E → Bool) (F : Format E) (laws : Laws fits F) where
  pub claim : (xs : List E) → Held fits xs → length (image_of F xs) ≤ CAP → Claim fits F xs (image_of F xs)
  claim xs h l =
      let w = written-accepted fits F laws xs h in
      let a = image-admitted F (F.writing xs) xs w l in
      record {
        admitted = a;
        same = λ t T ys vs c.
            let v = written-accepted fits F laws ys (history-holds fits F laws t c.history).1 in
            let b = image-admitted F (F.writing ys) ys v (subst (λ us. length us ≤ CAP) c.image c.short) in
            (λ e. cc, λ e. c.image ∙ ap (image_of F) e);
        least = λ vs u b. let v = admitted-accepted F vs xs u b in omega (arith, laws.least (slices_of vs) xs v, w.count, v.count, length-image (F.writing xs), length-image (slices_of vs), words_hold vs (asked_uncounted (Some F.slots) vs (admission_parts F vs xs b).0));
      }
