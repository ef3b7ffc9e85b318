-- Every request keeps what is known of the house and its past. The others' part is put together once (`assembled`); then there
-- are events that are neither read, write nor commit (`calm`), reads and writes (`worked`), and those that leave the house as
-- it was (`unmoved`).
-- Assumes nothing.
use Prim.Native.Nat.{ℕ, ◌≤◌, ◌<◌}
use native.Mathlib.Omega.{arith}
use mathlib.Core.Path.{◌≡◌, refl, sym, ap, ap₂, ◌∙◌}
use mathlib.Core.Logic.{◌≢◌, ◌⊎◌, inl, inr}
use mathlib.Core.Bool.{true, false, ◌||◌}
use mathlib.Core.List.{[], ◌∷◌}
use borrow.Author.Tests.{eq-eqb, ne_eqb}
use Rattle.house.specs.declared.Answer.TheVariants.{Done, Ticket}
use Rattle.house.specs.declared.House.{House}
use Rattle.house.specs.declared.Outcome.{Outcome}
use Rattle.house.specs.declared.Reply.{Reply}
use Rattle.house.specs.declared.Request.{Request}
use Rattle.house.specs.House.{level_of, place_at, next_at}
use Rattle.house.specs.Rules.{read, write, commit, ticket_after, begun, read_by, read_for, written_by, signalled, certified_by, left, committed_by, aborted_by, ask_answer, replied, stepped}
use Rattle.house.specs.Run.{done}
use Rattle.house.proofs.Tests.{same, clash}
use Rattle.house.proofs.Places.{Seated}
use Rattle.house.proofs.Effects.{begun_place, begun_next, certified_place, begun_next_other}
use Rattle.reach.specs.Kept.{Open, Issued}
use Rattle.reach.proofs.Law.{Law, Frame, Own, lawful}
use Rattle.reach.proofs.Turns.{MayBegin, MayRead, MayWrite, MayCertify, MayCommit, Turn, refused, waits, begins, reads, writes, certifies, commits, aborts, asks, turn}
use Rattle.reach.proofs.Changes.{after_cases, begin_frame, begin_own, read_frame, read_own, write_frame, write_own, certify_frame, certify_own, freed, abort_frame, commit_frame, abort_own, commit_own}
use Rattle.reach.proofs.Guards.{read_number}
use Rattle.serial.specs.Demand.{Event, name, doing, Table, table}
use Rattle.serial.proofs.Past.{Past, doings, alone, Repeats, serial, Serial, doings_skip, doings_take, serial_skip, serial_take, doing_other, quiet, doing_quiet}
use Rattle.serial.proofs.Told.{Told, told_kept, begin_told, read_told, write_told, certify_told, begin_table, read_table, write_table, certify_table, abort_table, commit_table, commit_repeats}

-- what the transaction at p has done
abbrev pub own : House → Past → ℕ → Past
own h past p = doings (level_of p, (place_at h.places p).ticket) past

-- the transaction of that name has ended
pub record Gone (h : House) (l n : ℕ) : Type 0 where
  pub level : l < 4
  pub issued : Issued h l n
  pub nobody : (p : ℕ) → p < 32 → Open h p → level_of p ≡ l → (place_at h.places p).ticket ≢ n

-- whoever committed in this past is gone, and has done nothing since
abbrev pub Closed : House → Past → Past → Type 0
Closed h whole [] = Unit {0}
Closed h whole (e ∷ past) =
    (done e commit ≡ true → Gone h e.0.level e.0.ticket × (doings (name e) whole ≡ doings (name e) past))
    × Closed h whole past

-- a ticket not yet given out has done nothing
abbrev pub Unheard : House → Past → Type 0
Unheard h past = (l n : ℕ) → l < 4 → next_at h.next l ≢ 0 → next_at h.next l ≤ n → doings (l, n) past ≡ []

-- what is known of a house and its past, from a table t on
pub record Known (t : Table) (h : House) (past : Past) : Type 0 where
  pub law : Law h
  pub told : (p : ℕ) → p < 32 → Open h p → Told h p (own h past p)
  pub unheard : Unheard h past
  pub ends : serial t past ≡ table h
  pub repeats : Serial t past
  pub closed : Closed h past past

-- A change by `me`, with its event: the others' part

module _ {t : Table} {h h' : House} {past : Past} {me : ℕ} (I : Known t h past) (F : Frame h h' me) (O : Own h h' me) (m : me < 32) (e : Event) where
  -- the transaction at me, if there is one now, was there before, or its ticket is a new one
  abbrev Same : Type 0
  Same = Open h' me → (Open h me × ((place_at h'.places me).ticket ≡ (place_at h.places me).ticket)) ⊎ ¬ Issued h (level_of me) (place_at h'.places me).ticket

  gone_kept : Same → (l n : ℕ) → Gone h l n → Gone h' l n
  gone_kept s l n g =
      record {
        level = g.level;
        issued = F.issued l n g.issued;
        nobody = λ p b o x y.
            elim (same p me) [
              | inl z ↦ elim (s (rw z at o)) [
                | inl k ↦ g.nobody me m k.0 (sym (ap level_of z) ∙ x) (sym k.1 ∙ rw z at y)
                | inr k ↦ k (rw (sym (ap level_of z) ∙ x, rw z at y) g.issued)
              ]
              | inr d ↦ g.nobody p b (rw (F.place p b d) at o) x (rw (F.place p b d) at y)
            ];
      }

  closed_kept : Same → (whole : Past) → ((l n : ℕ) → Gone h l n → doing (l, n) e ≡ false) → (old : Past) → Closed h whole old → Closed h' (e ∷ whole) old
  closed_kept s whole q [] c = tt
  closed_kept s whole q (d ∷ old) c =
      ((λ x. let k = c.0 x in (gone_kept s _ _ k.0, doings_skip _ e whole (q _ _ k.0) ∙ k.1)), closed_kept s whole q old c.1)

  assembled : Same
      → ((l n : ℕ) → Gone h l n → doing (l, n) e ≡ false)
      → (done e commit ≡ true → Gone h' e.0.level e.0.ticket × (doing (name e) e ≡ false))
      → ((p : ℕ) → p < 32 → p ≢ me → Open h p → doing (level_of p, (place_at h.places p).ticket) e ≡ false)
      → (Open h' me → Told h' me (own h' (e ∷ past) me))
      → Unheard h' (e ∷ past)
      → serial t (e ∷ past) ≡ table h'
      → (done e commit ≡ true → Repeats (serial t past) (doings (name e) past))
      → Known t h' (e ∷ past)
  assembled still nothing ended others mine unheard ends repeats =
      record {
        law = lawful I.law F m O;
        told = λ p b o.
            elim (same p me) [
              | inl x ↦ rw x (mine (rw x at o))
              | inr n ↦
                  let o' : Open h p = rw (F.place p b n) at o in
                  rw (F.place p b n, doings_skip (level_of p, (place_at h.places p).ticket) e past (others p b n o')) (told_kept I.law F p b n _ (I.told p b o'))
            ];
        unheard = unheard;
        ends = ends;
        repeats = (repeats, I.repeats);
        closed = ((λ d. let k = ended d in (k.0, doings_skip _ e past k.1)), closed_kept still past nothing past I.closed);
      }

  -- the event is neither read, write nor commit
  calm : Same → quiet e ≡ true → done e commit ≡ false → (Open h' me → Told h' me (own h' past me)) → Unheard h' past → table h' ≡ table h → Known t h' (e ∷ past)
  calm s z c mine unheard same-table =
      assembled s (λ l n g. doing_quiet (l, n) e z) (λ d. clash d c) (λ p b n o. doing_quiet _ e z)
      (λ o. rw (doings_skip (level_of me, (place_at h'.places me).ticket) e past (doing_quiet _ e z)) (mine o))
      (λ l n b x y. doings_skip (l, n) e past (doing_quiet _ e z) ∙ unheard l n b x y)
      (serial_skip t e past c ∙ I.ends ∙ sym same-table)
      (λ d. clash d c)

  -- the event is a read or a write of the transaction at me
  worked : Open h me → e.0.level ≡ level_of me → e.0.ticket ≡ (place_at h.places me).ticket → (done e read || done e write) ≡ true → done e commit ≡ false → place_at h'.places me ≡ place_at h.places me → ((l : ℕ) → next_at h'.next l ≡ next_at h.next l) → Told h' me (e ∷ own h past me) → table h' ≡ table h → Known t h' (e ∷ past)
  unfolding doing Issued
  worked o lv tk y c kept nexts mine same-table =
      let ticket = (place_at h.places me).ticket in
      assembled (λ x. inl (o, ap (λ p. p.ticket) kept)) (λ l n g. doing_other (l, n) e (λ u w. g.nobody me m o (sym lv ∙ u) (sym tk ∙ w))) (λ d. clash d c)
      (λ p b n x. doing_other _ e (λ u w. n (I.law.apart p me b m x o (sym u ∙ lv) (sym w ∙ tk))))
      (λ x. rw (kept, doings_take (level_of me, ticket) e past (rw (lv, tk, eq-eqb (level_of me) (level_of me) refl, eq-eqb ticket ticket refl) y)) mine)
      (λ l n b x y.
      doings_skip (l, n) e past
      (doing_other (l, n) e
      (λ u w.
      let j : ticket < next_at h.next l = (rw (sym lv ∙ u) at (I.law.issued me m o)) (rw (nexts l) at x) in
      let k : next_at h.next l ≤ n = rw (nexts l) at y in
      omega arith))
      ∙ I.unheard l n b (rw (nexts l) at x) (rw (nexts l) at y))
      (serial_skip t e past c ∙ I.ends ∙ sym same-table)
      (λ d. clash d c)

-- The house stays as it was: a refusal, or an ask
unmoved : {t : Table} {h : House} {past : Past} → Known t h past → (e : Event) → quiet e ≡ true → done e commit ≡ false → Known t h (e ∷ past)
unmoved {t} {h} {past} I e z c =
    record {
      law = I.law;
      told = λ p b o. rw (doings_skip (level_of p, (place_at h.places p).ticket) e past (doing_quiet _ e z)) (I.told p b o);
      unheard = λ l n b x y. doings_skip (l, n) e past (doing_quiet _ e z) ∙ I.unheard l n b x y;
      ends = serial_skip t e past c ∙ I.ends;
      repeats = ((λ d. clash d c), I.repeats);
      closed = ((λ d. clash d c), closed_still past past I.closed);
    }
  where
    closed_still : (whole old : Past) → Closed h whole old → Closed h (e ∷ whole) old
    closed_still whole [] x = tt
    closed_still whole (d ∷ old) x = ((λ y. let k = x.0 y in (k.0, doings_skip _ e whole (doing_quiet _ e z) ∙ k.1)), closed_still whole old x.1)

-- The operations

module _ {t : Table} {h : House} {past : Past} (I : Known t h past) (q : Request) where
  undone_known : (r : Reply) → r.number ≢ 0 → Known t h ((q, r) ∷ past)
  unfolding quiet
  undone_known r z = let n = ne_eqb r.number 0 z in unmoved I _ (rw n) (rw n)

  module _ (me : ℕ) where
    begin_unheard : MayBegin h q.level me → Unheard (begun h q.level me) past
    begin_unheard K k n b z g =
        let l = q.level in
        elim (same k q.level) [
          | inl e ↦
              rw e
              (I.unheard l n K.level K.ticket
              (let y : ticket_after (next_at h.next l) ≤ n = rw (e, begun_next I.law.sizes l me K.level) at g in
              elim (after_cases (next_at h.next l)) [ inl x ↦ omega arith | inr x ↦ absurd (z (rw (e, begun_next I.law.sizes l me K.level) x)) ]))
          | inr d ↦ I.unheard k n b (rw (begun_next_other h l me k d) at z) (rw (begun_next_other h l me k d) at g)
        ]

    begin_known : q.operation ≡ 0 → MayBegin h q.level me → Known t (begun h q.level me) ((q, replied q (Ticket (next_at h.next q.level))) ∷ past)
    unfolding quiet Issued
    begin_known o K =
        let l = q.level in
        let here = begun_place I.law.sizes l me K.place in
        calm I (begin_frame I.law K) (begin_own I.law K) K.place _
        (λ x. inr (λ y. let z : next_at h.next l < next_at h.next l = (rw (here, K.placed) at y) K.ticket in omega arith))
        (rw o) (rw o)
        (λ x. rw (here, K.placed, I.unheard l (next_at h.next l) K.level K.ticket (omega arith)) (begin_told I.law K))
        (begin_unheard K) (begin_table h l me)

    module _ (S : Seated h.places q.level q.ticket me) where
      read_known : q.operation ≡ 1 → MayRead h me q.item → Known t (read_by h me q.item) ((q, replied q (read_for h me q.item)) ∷ past)
      unfolding read_by
      read_known o K =
          worked I (read_frame I.law K) (read_own I.law K) K.place _ S.taken (sym S.within.level) (sym S.ticket)
          (rw (read_number h q me q.item) (rw o)) (rw (read_number h q me q.item) (rw o)) refl (λ l. refl)
          (read_told I.law q o K _ (I.told _ K.place S.taken)) (read_table h me q.item)

      write_known : q.operation ≡ 2 → MayWrite h me q.item q.value → Known t (written_by h me q.item q.value) ((q, replied q Done) ∷ past)
      unfolding written_by
      write_known o K =
          worked I (write_frame I.law K) (write_own I.law K) K.place _ S.taken (sym S.within.level) (sym S.ticket)
          (rw o) (rw o) refl (λ l. refl)
          (write_told I.law q o K _ (I.told _ K.place S.taken)) (write_table h me q.item q.value)

      certify_known : q.operation ≡ 3 → MayCertify h me → Known t (certified_by h me) ((q, replied q Done) ∷ past)
      unfolding quiet certified_by
      certify_known o K =
          let here = certified_place I.law.sizes me K.place in
          calm I (certify_frame I.law K) (certify_own I.law K) K.place _ (λ x. inl (S.taken, rw here)) (rw o) (rw o)
          (λ x. rw here (certify_told I.law K _ (I.told _ K.place S.taken))) I.unheard (certify_table h me)

      abort_known : q.operation ≡ 5 → Known t (aborted_by h me) ((q, replied q Done) ∷ past)
      unfolding quiet left
      abort_known o =
          let m = S.within.place in
          let free = freed I.law.sizes h.cells me m in
          calm I (abort_frame I.law m) (abort_own I.law m) m _ (λ x. clash free x) (rw o) (rw o) (λ x. clash free x) I.unheard (abort_table h me)

      -- after its commit a transaction is gone
      ended : Gone (committed_by h me) q.level q.ticket
      ended =
          let m = S.within.place in
          let lv = S.within.level in
          let F = commit_frame I.law m in
          record {
            level = omega arith;
            issued = F.issued _ _ (rw (lv, S.ticket) at (I.law.issued me m S.taken));
            nobody = λ p b x y z.
                elim (same p me) [
                  | inl w ↦ clash (freed I.law.sizes (signalled commit h me) me m) (rw w at x)
                  | inr n ↦ n (I.law.apart p me b m (rw (F.place p b n) at x) S.taken (y ∙ sym lv) ((rw (F.place p b n) at z) ∙ sym S.ticket))
                ];
          }

      commit_known : q.operation ≡ 4 → MayCommit h me → Known t (committed_by h me) ((q, replied q Done) ∷ past)
      unfolding quiet left
      commit_known o K =
          let m = K.place in
          let e : Event = (q, replied q Done) in
          let free = freed I.law.sizes (signalled commit h me) me m in
          let told = I.told me m S.taken in
          let mine : doings (q.level, q.ticket) past ≡ own h past me = rw (S.within.level, S.ticket) in
          assembled I (commit_frame I.law m) (commit_own I.law m) m e (λ x. clash free x) (λ l n g. doing_quiet (l, n) e (rw o))
          (λ d. (ended, doing_quiet _ e (rw o))) (λ p b n x. doing_quiet _ e (rw o)) (λ x. clash free x)
          (λ l n b x y. doings_skip (l, n) e past (doing_quiet (l, n) e (rw o)) ∙ I.unheard l n b x y)
          (serial_take t e past (rw o) ∙ ap₂ alone mine I.ends ∙ sym (commit_table I.law K _ told))
          (λ d. rw (mine, I.ends) (commit_repeats K (own h past me) told))

      ask_known : q.operation ≡ 6 → Known t h ((q, replied q (ask_answer h.cells me)) ∷ past)
      unfolding quiet ask_answer
      ask_known o = unmoved I _ (rw o) (rw o)

  turn_known : {o : Outcome} → Turn h q o → Known t o.house ((q, o.reply) ∷ past)
  turn_known (refused n) = undone_known _ n
  turn_known (waits p z e) = undone_known _ (λ e. omega arith)
  turn_known (begins me o K) = begin_known me o K
  turn_known (reads me o A K) = read_known me A.seated o K
  turn_known (writes me o A K) = write_known me A.seated o K
  turn_known (certifies me o A K) = certify_known me A.seated o K
  turn_known (commits me o A K) = commit_known me A.seated o K
  turn_known (aborts me o A) = abort_known me A.seated o
  turn_known (asks me o A) = ask_known me A.seated o

  pub step_known : Known t (stepped h q).house ((q, (stepped h q).reply) ∷ past)
  step_known = turn_known (turn h q)
