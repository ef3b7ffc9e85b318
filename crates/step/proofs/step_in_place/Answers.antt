-- The holder's place is there; the ruling's three ways have met where the reply is made (`Requests`).
use native.Mathlib.Omega.{arith}
use mathlib.Core.Path.{ap, ◌∙◌}
use Rattle.house.specs.declared.Answer.TheVariants.{Refused}
use Rattle.step.proofs.Requests.{holder_there, Ruled, refused, delayed, granted, stepping}
use Rattle.step.proofs.step_in_place.Goals as goal
use Rattle.step.proofs.step_in_place.Goals.{in-Grant, in-Wait, in-Refuse}

pub offset_bounds-h-p : goal.offset_bounds-h-p
offset_bounds-h-p c = omega (arith, holder_there c.args.h.now c.args.q _ c.view-view.ensures _ c.judge.ensures _ c.in-Wait.is)

pub bounds-h-p : goal.bounds-h-p
bounds-h-p c = holder_there c.args.h.now c.args.q _ c.view-view.ensures _ c.judge.ensures _ c.in-Wait.is

pub returns : goal.returns
returns c =
    let h = c.args.h.now in
    let s = c.view-view.ensures in
    let j = c.judge.ensures in
    let so : Ruled h c.args.q _ s c.judge.result j c.match-judge.answer c.match-judge.h = elim c.match-judge.branch [
      | in-Grant w ↦ granted h c.args.q _ s _ j _ _ w.in-Grant.is _ w.answer-is _ (w.h-is ∙ w.perform_in_place.ensures)
      | in-Wait w ↦ delayed h c.args.q _ s _ j _ w.in-Wait.is _ (w.answer-is ∙ w.delayed_by-answer.ensures) _ w.h-is
      | in-Refuse w ↦ refused h c.args.q _ s _ j _ w.in-Refuse.is _ (w.answer-is ∙ ap Refused w.from.ensures) _ w.h-is
    ] in
    stepping h c.args.q _ s _ j _ _ so _ c.reply_to.ensures
