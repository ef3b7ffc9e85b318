-- The ruling of a request and the change made of it are the step of the rules.
-- Assumes nothing.
use Prim.Native.Nat.{ℕ, ◌<◌}
use native.Mathlib.Omega.{arith}
use mathlib.Core.Path.{◌≡◌, refl, ◌∙◌}
use mathlib.Core.Logic.{◌≢◌, inl, inr}
use mathlib.Core.Bool.{Bool, true}
use mathlib.Core.List.{List, [], ◌∷◌}
use lib.Dec.{ltb}
use borrow.Author.Tests.{lt-ltb}
use Rattle.std.specs.Prelude.{Option, Some, None}
use Rattle.house.specs.declared.House.{House}
use Rattle.house.specs.declared.Refusal.{Refusal}
use Rattle.house.specs.declared.Refusal.TheVariants.{Stopped, NoOperation, NoLevel, UnusedSet, Unknown, NoItem, Forbidden, Untimely, WornOut, Crowded, Ticketless, BlankSheet}
use Rattle.house.specs.declared.Request.{Request}
use Rattle.house.specs.House.{Sizes, vacancy}
use Rattle.house.specs.Checks.{foremost, by_number}
use Rattle.house.specs.Search.{if_found}
use Rattle.house.specs.Rules.{begin, asker, uses_item, crowded, holder, number, reasons, refusals, outcome, served, performed, stepped}
use Rattle.house.proofs.Operations.{is_begin, is_read, is_write, is_certify, is_commit, is_abort, is_ask, not_begin}
use Rattle.std.proofs.lemmas.Bool.{cases_Bool, and_from}
use Rattle.house.proofs.Tests.{same}
use Rattle.house.proofs.Places.{seek_at, vacancy_at}
use Rattle.house.proofs.Effects.{begun_sizes, read_sizes, written_sizes, certified_sizes, left_sizes, committed_sizes}
use Rattle.house.proofs.Checks.{Clear, clear, item_there, somebody, asker_known}
use Rattle.house.proofs.Steps.{refused_is, waits_is, free_is}
use Rattle.house.proofs.Holders.{holder_at}
use Rattle.ruling.specs.declared.Change.{Change}
use Rattle.ruling.specs.declared.Change.TheVariants.{Nothing, Begin, Read, Write, Certify, Commit, Abort}
use Rattle.ruling.specs.declared.Ruling.{Ruling}
use Rattle.ruling.specs.declared.Ruling.TheVariants.{Refuse, Wait}
use Rattle.ruling.specs.Ruling.{effect, answer_of, change_of, ruling_fits, chain, granted, ruled}

-- A chain of checks: what is ruled where none applies, or the refusal of the first that does

number_some : (r : Refusal) → number r ≢ 0
number_some Stopped e = absurd (omega arith)
number_some NoOperation e = absurd (omega arith)
number_some NoLevel e = absurd (omega arith)
number_some UnusedSet e = absurd (omega arith)
number_some Unknown e = absurd (omega arith)
number_some NoItem e = absurd (omega arith)
number_some Forbidden e = absurd (omega arith)
number_some Untimely e = absurd (omega arith)
number_some WornOut e = absurd (omega arith)
number_some Crowded e = absurd (omega arith)
number_some Ticketless e = absurd (omega arith)
number_some BlankSheet e = absurd (omega arith)

chain_passed : (l : List (Refusal × Bool)) (g : Ruling) → foremost (by_number number l) ≡ 0 → chain l g ≡ g
chain_passed [] g z = refl
chain_passed (x ∷ xs) g z = elim (cases_Bool x.1) [ inl y ↦ absurd (number_some x.0 (rw y at z)) | inr y ↦ rw y (chain_passed xs g (rw y at z)) ]

chain_refuses : (l : List (Refusal × Bool)) (g : Ruling) → foremost (by_number number l) ≢ 0 → (r : Refusal) × (foremost (by_number number l) ≡ number r) × (chain l g ≡ Refuse r)
chain_refuses [] g n = absurd (n refl)
chain_refuses (x ∷ xs) g n = elim (cases_Bool x.1) [ inl y ↦ (x.0, rw y, rw y) | inr y ↦ rw y (chain_refuses xs g (λ e. n (rw y e))) ]

module _ (h : House) (q : Request) (unrefused : foremost (refusals h q) ≡ 0) where
  abbrev c : Clear h q
  c = clear h q unrefused

  -- a read or a write that passed names a row
  item_below : uses_item q ≡ true → q.item < 64
  item_below u = (item_there h q u c.present).1

  -- what is granted is what the rules do, and names what the house has
  abbrev Made : Type 0
  Made = (performed h q ≡ outcome (effect h (change_of (granted h q))) q (answer_of h (granted h q))) × (ruling_fits (granted h q) ≡ true)

  begin_made : q.operation ≡ begin → Made
  unfolding performed granted crowded
  begin_made o =
      let free = somebody (vacancy h.places q.level) (rw o at c.roomy) in
      let at = vacancy_at h.places q.level free.0 c.level free.1 in
      rw (o, free.1) (refl, and_from _ _ (lt-ltb q.level 4 c.level) (lt-ltb free.0 32 at.within.place))

  -- the transaction that asks for anything else has a place
  by_asker : q.operation ≢ begin → ((me : ℕ) → asker h q ≡ Some me → ltb me 32 ≡ true → Made) → Made
  by_asker o made =
      let who = asker_known h q o unrefused in
      made who.0 who.1 (lt-ltb _ 32 (seek_at h.places q.level q.ticket who.0 c.level who.1).within.place)

  done_made : Made
  unfolding performed granted served
  done_made = elim c.operation [
    | is_begin o ↦ begin_made o
    | is_read o ↦ by_asker (not_begin o) (λ me at b. rw (o, at) (refl, and_from _ _ b (lt-ltb q.item 64 (item_below (rw o)))))
    | is_write o ↦ by_asker (not_begin o) (λ me at b. rw (o, at) (refl, and_from _ _ b (lt-ltb q.item 64 (item_below (rw o)))))
    | is_certify o ↦ by_asker (not_begin o) (λ me at b. rw (o, at) (refl, b))
    | is_commit o ↦ by_asker (not_begin o) (λ me at b. rw (o, at) (refl, b))
    | is_abort o ↦ by_asker (not_begin o) (λ me at b. rw (o, at) (refl, b))
    | is_ask o ↦ by_asker (not_begin o) (λ me at b. rw (o, at) (refl, refl))
  ]

-- so the ruling, with the effect of its change, is the step of the rules, and names what the house has
module _ (h : House) (q : Request) where
  abbrev Ruled : Ruling → Type 0
  Ruled r = (stepped h q ≡ outcome (effect h (change_of r)) q (answer_of h r)) × (ruling_fits r ≡ true)

  holder_there : (p : ℕ) → holder h q ≡ Some p → p < 32
  holder_there p e = (holder_at h q p e).2.place

  unrefused : foremost (refusals h q) ≡ 0 → (who : Option ℕ) → holder h q ≡ who → Ruled (if_found who Wait (granted h q))
  unrefused z (Some p) e = (waits_is h q p z e, lt-ltb p 32 (holder_there p e))
  unrefused z None e = let made = done_made h q z in (free_is h q z e ∙ made.0, made.1)

  abbrev past_refusals : Ruling
  past_refusals = if_found (holder h q) Wait (granted h q)

  refused : (r : Refusal) → foremost (refusals h q) ≢ 0 → foremost (refusals h q) ≡ number r → Ruled (Refuse r)
  refused r n e = (rw e at (refused_is h q n), refl)

  all_ruled : Ruled (ruled h q)
  unfolding ruled refusals
  all_ruled =
      elim (same (foremost (refusals h q)) 0) [
        | inl z ↦ rw (chain_passed (reasons h q) past_refusals z) (unrefused z (holder h q) refl)
        | inr n ↦ let w = chain_refuses (reasons h q) past_refusals n in rw w.2 (refused w.0 n w.1)
      ]

pub ruled_steps : (h : House) (q : Request) → stepped h q ≡ outcome (effect h (change_of (ruled h q))) q (answer_of h (ruled h q))
ruled_steps h q = (all_ruled h q).0

pub ruled_fits : (h : House) (q : Request) → ruling_fits (ruled h q) ≡ true
ruled_fits h q = (all_ruled h q).1

-- the house stays as large as it was
effect_sizes : {h : House} → Sizes h → (c : Change) → Sizes (effect h c)
effect_sizes z Nothing = z
effect_sizes z (Begin l me) = begun_sizes z l me
effect_sizes z (Read me i) = read_sizes z me i
effect_sizes z (Write me i v) = written_sizes z me i v
effect_sizes z (Certify me) = certified_sizes z me
effect_sizes z (Commit me) = committed_sizes z me
effect_sizes z (Abort me) = left_sizes z _ me z.cells

pub stepped_sizes : (h : House) → Sizes h → (q : Request) → Sizes (stepped h q).house
stepped_sizes h z q = rw (ruled_steps h q) (effect_sizes z (change_of (ruled h q)))
