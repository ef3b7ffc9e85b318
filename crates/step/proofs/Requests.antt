-- One request, from what the calls promise: the judge's ruling, and by its three ways the answer and the house.
-- Assumes nothing.
use Prim.Native.Nat.{ℕ, ◌%◌, ◌<◌}
use native.Mathlib.Nat.{mod-eq_of_lt}
use mathlib.Core.Bool.{true}
use mathlib.Core.Path.{◌≡◌, sym, ap, ◌∙◌}
use borrow.Author.Tests.{ltb-true}
use Rattle.house.specs.declared.Answer.{Answer}
use Rattle.house.specs.declared.Answer.TheVariants.{Refused, Delayed}
use Rattle.house.specs.declared.House.{House}
use Rattle.house.specs.declared.Refusal.{Refusal}
use Rattle.house.specs.declared.Reply.{Reply}
use Rattle.house.specs.declared.Request.{Request}
use Rattle.house.specs.House.{level_of, place_at}
use Rattle.house.specs.Rules.{number, replied, stepped}
use Rattle.ruling.proofs.Steps.{ruled_steps, ruled_fits}
use Rattle.ruling.specs.Judged.{Shown, Judged}
use Rattle.ruling.specs.Ruling.{fits, effect, effect_if_fit, answer_of, change_of, ruling_fits, ruled}
use Rattle.ruling.specs.declared.Change.{Change}
use Rattle.ruling.specs.declared.Ruling.{Ruling}
use Rattle.ruling.specs.declared.Ruling.TheVariants.{Refuse, Wait, Grant}
use Rattle.ruling.specs.declared.View.{View}

module _ (h : House) (q : Request) (v : View) (shown : Shown h q v h.cells) (r : Ruling) (judged : Judged v h.cells q r) where
  -- the judge was shown this house
  ruling : ruled h q ≡ r
  unfolding Judged
  ruling = sym (judged h shown)

  -- so the ruling names what the house has
  there : ruling_fits r ≡ true
  there = rw ruling at (ruled_fits h q)

  pub holder_there : (p : ℕ) → r ≡ Wait p → p < 32
  holder_there p e = ltb-true p 32 (sym (ap ruling_fits e) ∙ there)

  -- What the step comes to: the answer of the ruling, and the house with its change
  abbrev pub Ruled : Answer → House → Type 0
  Ruled x g = (x ≡ answer_of h r) × (g ≡ effect h (change_of r))

  -- A refusal or a delay leaves the house that came, a grant the one that `perform_in_place` leaves. A holder is named by the row of its place
  pub refused : (n : Refusal) → r ≡ Refuse n → (x : Answer) → x ≡ Refused (number n) → (g : House) → g ≡ h → Ruled x g
  refused n e x s g m = rw e (s, m)

  pub delayed : (p : ℕ) → r ≡ Wait p → (x : Answer) → x ≡ Delayed (place_at h.places p).ticket (level_of (p % 32)) → (g : House) → g ≡ h → Ruled x g
  delayed p e x s g m = rw e (s ∙ rw (mod-eq_of_lt (holder_there p e)), m)

  pub granted : (y : Answer) (k : Change) → r ≡ Grant y k → (x : Answer) → x ≡ y → (g : House) → g ≡ effect_if_fit h k → Ruled x g
  unfolding effect_if_fit
  granted y k e x s g m = let fit : fits k ≡ true = rw e at there in rw e (s, m ∙ rw fit)

  -- and that, with the reply to the answer, is the step of the rules
  pub stepping : (x : Answer) (g : House) → Ruled x g → (a : Reply) → a ≡ replied q x → stepped h q ≡ record { house = g; reply = a }
  stepping x g so a s = rw (ruled_steps, ruling, s, so.0, so.1)
