-- Each promise settles its outcome: any two that it allows for the same arguments are equal, and so are the reply bytes, which
-- stand at `s.1.1.1.1.0`: what the fifth parameter lends, as the function returns. A map has those of the ninth and the eleventh too.
-- `Reads.Post` is the contract as the checker reads it off the source.
-- Assumes nothing.
use mathlib.Core.Path.{◌≡◌, sym, ◌∙◌}
use borrow.Fn.Kinds as Kinds'
use borrow.Fn.World
use contract.Lifetimes
use denote.Triple.Clauses
use Rattle.port.specs.contracts.desk_fresh_map as maps
use Rattle.port.proofs.desk_fresh_map.Kinds as maps_kinds
use Rattle.port.proofs.desk_fresh_map.Reads as maps_reads
use Rattle.port.specs.contracts.desk_fresh_open as opens
use Rattle.port.proofs.desk_fresh_open.Kinds as opens_kinds
use Rattle.port.proofs.desk_fresh_open.Reads as opens_reads
use Rattle.port.specs.contracts.desk_fresh_turn_in_place as in_place
use Rattle.port.proofs.desk_fresh_turn_in_place.Kinds as in_place_kinds
use Rattle.port.proofs.desk_fresh_turn_in_place.Reads as in_place_reads
use Rattle.port.specs.contracts.desk_fresh_turn as turns
use Rattle.port.proofs.desk_fresh_turn.Kinds as turns_kinds
use Rattle.port.proofs.desk_fresh_turn.Reads as turns_reads

pub desk_fresh_open_settled : (κs : Lifetimes.Lfts 2) (a : World.ArgsD opens.signature κs) (r r' : World.ResD opens.signature κs) (s s' : Clauses.AtExit (Kinds'.ended_of 2 opens_kinds.ps opens_kinds.r) κs) → opens_reads.Post κs a r s → opens_reads.Post κs a r' s' → r ≡ r'
desk_fresh_open_settled κs a r r' s s' p q = p ∙ sym q

pub desk_fresh_turn_in_place_settled : (κs : Lifetimes.Lfts 4) (a : World.ArgsD in_place.signature κs) (r r' : World.ResD in_place.signature κs) (s s' : Clauses.AtExit (Kinds'.ended_of 4 in_place_kinds.ps in_place_kinds.r) κs) → in_place_reads.Post κs a r s → in_place_reads.Post κs a r' s' → (r ≡ r') × (s.1.1.1.1.0.now ≡ s'.1.1.1.1.0.now)
desk_fresh_turn_in_place_settled κs a r r' s s' p q = (p.0 ∙ sym q.0, p.1 ∙ sym q.1)

pub desk_fresh_turn_settled : (κs : Lifetimes.Lfts 4) (a : World.ArgsD turns.signature κs) (r r' : World.ResD turns.signature κs) (s s' : Clauses.AtExit (Kinds'.ended_of 4 turns_kinds.ps turns_kinds.r) κs) → turns_reads.Post κs a r s → turns_reads.Post κs a r' s' → (r ≡ r') × (s.1.1.1.1.0.now ≡ s'.1.1.1.1.0.now)
desk_fresh_turn_settled κs a r r' s s' p q = (p.0 ∙ sym q.0, p.1 ∙ sym q.1)

pub desk_fresh_map_settled : (κs : Lifetimes.Lfts 8) (a : World.ArgsD maps.signature κs) (r r' : World.ResD maps.signature κs) (s s' : Clauses.AtExit (Kinds'.ended_of 8 maps_kinds.ps maps_kinds.r) κs) → maps_reads.Post κs a r s → maps_reads.Post κs a r' s' →
    let ninth = s.1.1.1.1.1.1.1.1 in
    let ninth' = s'.1.1.1.1.1.1.1.1 in
    (r ≡ r') × (s.1.1.1.1.0.now ≡ s'.1.1.1.1.0.now) × (ninth.0.now ≡ ninth'.0.now) × (ninth.1.1.0.now ≡ ninth'.1.1.0.now)
desk_fresh_map_settled κs a r r' s s' p q = (p.0 ∙ sym q.0, p.1 ∙ sym q.1, p.2 ∙ sym q.2, p.3 ∙ sym q.3)
