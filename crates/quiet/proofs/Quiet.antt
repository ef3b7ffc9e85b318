-- No marking can be noticed: request after request, by the two sentences about one.
-- Assumes nothing.
use Prim.Native.Nat.{ℕ, ◌<◌}
use mathlib.Core.Path.{◌≡◌, refl, sym, ap, ap₂, ◌∙◌}
use mathlib.Core.Logic.{inl, inr}
use mathlib.Core.List.{List, [], ◌∷◌}
use Rattle.house.specs.declared.House.{House}
use Rattle.house.specs.declared.Request.{Request}
use Rattle.house.specs.Rules.{stepped}
use Rattle.house.specs.Opening.{opening}
use Rattle.house.specs.Run.{finally, replies, trace}
use Rattle.std.proofs.lemmas.Bool.{cases_Bool}
use Rattle.reach.specs.Kept.{Kept}
use Rattle.reach.proofs.Law.{same_order}
use Rattle.reach.proofs.Kept.{step_keeps}
use Rattle.reach.proofs.Answers.{fixed_stays}
use Rattle.reach.proofs.Opened.{opening_has}
use Rattle.quiet.specs.Alike.{stays, Alike}
use Rattle.quiet.specs.Quiet.{struck, to_others, NoMarking, NobodyCanTell}
use Rattle.quiet.proofs.Alike.{alike_itself, alike_back, alike_on}
use Rattle.quiet.proofs.Unseen.{struck_unseen}
use Rattle.quiet.proofs.Step.{answered_alike}

-- all are asked in the house h, and those that stay in one that is alike. No request changes the order
module _ (order : List ℕ) (k : ℕ) (b : k < 4) where
  unnoticed : {h g : House} → h.order ≡ order → Kept h → Kept g → Alike k h g → (qs : List Request) → (to_others order k (trace h qs) ≡ replies g (struck order k qs)) × Alike k (finally h qs) (finally g (struck order k qs))
  unfolding trace to_others struck replies finally
  unnoticed o K J A [] = (refl, A)
  unnoticed {h = h} {g = g} o K J A (q ∷ qs) =
      let K' = step_keeps h K q in
      let o' = same_order (stepped h q).house h (fixed_stays h q) ∙ o in
      elim (cases_Bool (stays order k q)) [
        | inl d ↦
            let s = answered_alike k b h g K J A q (rw o d) in
            let r = unnoticed {h = (stepped h q).house} {g = (stepped g q).house} o' K' (step_keeps g J q) s.1 qs in
            rw d (ap₂ ◌∷◌ s.0 r.0, r.1)
        | inr d ↦
            let r = unnoticed {h = (stepped h q).house} {g = g} o' K' J (alike_on (alike_back (struck_unseen k b h K q (rw o d))) A) qs in
            rw d (r.0, r.1)
      ]

pub no_marking : NoMarking
no_marking k b levels table rule qs =
    let h = (opening levels table rule).house in
    let K = opening_has levels table rule in
    let r = unnoticed h.order k b refl K K (alike_itself k h) qs in
    record { told = r.0; afterwards = r.1 }

pub nobody_can_tell : NobodyCanTell
nobody_can_tell k b levels table rule qs rs e =
    let h = (opening levels table rule).house in
    let x = no_marking k b levels table rule qs in
    let y = no_marking k b levels table rule rs in
    (x.told ∙ ap (replies h) e ∙ sym y.told, alike_on x.afterwards (rw e (alike_back y.afterwards)))
