-- Demand 3: from the past, the newest event first, to the trace in the order of time.
-- Assumes nothing.
use Prim.Native.Nat.{ℕ, ◌+◌}
use mathlib.Core.Path.{◌≡◌, refl, sym, ap, ap₂, ◌∙◌}
use mathlib.Core.Logic.{inl, inr}
use mathlib.Core.Bool.{true, false, cond}
use mathlib.Core.List.{List, [], ◌∷◌, ◌++◌, map, reverse, reverse_aux, reverse-cons, reverse-reverse, append-nil, append_assoc}
use lib.ListN.{get_or}
use lib.Dec.{eqb}
use Rattle.house.specs.declared.House.{House}
use Rattle.house.specs.declared.Request.{Request}
use Rattle.house.specs.declared.Rule.{Rule}
use Rattle.house.specs.Rules.{commit, stepped}
use Rattle.house.specs.Opening.{opening}
use Rattle.house.specs.Run.{finally, done, Name}
use Rattle.std.proofs.lemmas.Bool.{cases_Bool}
use Rattle.house.proofs.Tests.{clash}
use Rattle.house.proofs.Lists.{map_from_same}
use Rattle.reach.proofs.Law.{clear_law}
use Rattle.reach.proofs.Opened.{opening_has, opening_free}
use Rattle.serial.specs.Demand.{Event, trace, wrote, name, doing, work, commits, Row, Table, table, answer, answers, look, run, serially, Demand3, Untouched, OfUntouched, OfOpened}
use Rattle.serial.proofs.Past.{Past, doings, shown, alone, Repeats, serial, Serial}
use Rattle.serial.proofs.Step.{Closed, Known, step_known}

-- Where it starts

untouched_known : {h : House} → Untouched h → Known (table h) h []
unfolding serial doings
untouched_known U =
    record {
      law = clear_law U.sizes U.free U.clear;
      told = λ p b x. clash (U.free p b) x;
      unheard = λ l n b x y. refl;
      ends = refl;
      repeats = tt;
      closed = tt;
    }

pub opening_untouched : (levels table : List ℕ) (rule : Rule) → Untouched (opening levels table rule).house
opening_untouched levels table rule =
    let K = opening_has levels table rule in
    let free = opening_free levels table rule in
    record { sizes = K.sizes; free = free; clear = λ p i b a. K.idle p i b a (free p b) }

-- and where it comes to: the past is the trace, turned round
known : {t : Table} {h : House} {past : Past} → Known t h past → (qs : List Request) → Known t (finally h qs) (reverse_aux (trace h qs) past)
unfolding finally trace
known I [] = I
known {h = h} {past = past} I (q ∷ qs) = known {h = (stepped h q).house} {past = (q, (stepped h q).reply) ∷ past} (step_known I q) qs

-- What is picked from a trace, of two traces

work_append : (n : Name) (xs ys : List Event) → work n (xs ++ ys) ≡ work n xs ++ work n ys
unfolding work
work_append n [] ys = refl
work_append n (e ∷ xs) ys = elim (cases_Bool (doing n e)) [ inl x ↦ rw x (ap (λ l. e ∷ l) (work_append n xs ys)) | inr x ↦ rw x (work_append n xs ys) ]

commits_append : (xs ys : List Event) → commits (xs ++ ys) ≡ commits xs ++ commits ys
unfolding commits
commits_append [] ys = refl
commits_append (e ∷ xs) ys = elim (cases_Bool (done e commit)) [ inl x ↦ rw x (ap (λ l. name e ∷ l) (commits_append xs ys)) | inr x ↦ rw x (commits_append xs ys) ]

answers_append : (xs ys : List Event) → answers (xs ++ ys) ≡ answers xs ++ answers ys
unfolding answers
answers_append [] ys = refl
answers_append (e ∷ xs) ys = elim (cases_Bool (wrote e)) [ inl x ↦ rw x (answers_append xs ys) | inr x ↦ rw x (ap (λ l. answer e ∷ l) (answers_append xs ys)) ]

map_append : {A B : Type 0} (f : A → B) (xs ys : List A) → map f (xs ++ ys) ≡ map f xs ++ map f ys
map_append f [] ys = refl
map_append f (x ∷ xs) ys = ap (λ l. f x ∷ l) (map_append f xs ys)

work_reverse : (n : Name) (past : Past) → work n (reverse past) ≡ reverse (doings n past)
unfolding doings work
work_reverse n [] = refl
work_reverse n (e ∷ past) =
    rw (reverse-cons e past, work_append n (reverse past) (e ∷ []))
    (elim (cases_Bool (doing n e)) [
      | inl x ↦ rw (x, work_reverse n past) (sym (reverse-cons e (doings n past)))
      | inr x ↦ rw (x, work_reverse n past) (append-nil _)
    ])

-- A transaction alone

written : Past → List (ℕ × ℕ)
written [] = []
written (e ∷ own) = cond (wrote e) ((e.0.item, e.0.value) ∷ written own) (written own)

look_shown : (own : Past) (i : ℕ) (r : Row) → look (written own) i r ≡ shown own i r
unfolding look written shown
look_shown [] i r = refl
look_shown (e ∷ own) i r =
    elim (cases_Bool (wrote e)) [
      | inl x ↦ rw x (ap (λ y. cond (eqb e.0.item i) (e.0.value, r.1 + 1) y) (look_shown own i r))
      | inr x ↦ rw x (look_shown own i r)
    ]

run_write : (t : Table) (o : List (ℕ × ℕ)) (e : Event) (es : List Event) → wrote e ≡ true → run t o (e ∷ es) ≡ run t ((e.0.item, e.0.value) ∷ o) es
unfolding run
run_write t o e es x = rw x

run_read : (t : Table) (o : List (ℕ × ℕ)) (e : Event) (es : List Event) → wrote e ≡ false → run t o (e ∷ es) ≡ (look o e.0.item (get_or t e.0.item (0, 0)) ∷ (run t o es).0, (run t o es).1)
unfolding run
run_read t o e es x = rw x

run_reverse : (t : Table) (own : Past) (es : List Event) → Repeats t own → run t [] (reverse_aux own es) ≡ (answers (reverse own) ++ (run t (written own) es).0, (run t (written own) es).1)
unfolding written answers
run_reverse t [] es r = refl
run_reverse t (e ∷ own) es r =
    run_reverse t own (e ∷ es) r.1
    ∙ elim (cases_Bool (wrote e)) [
      | inl x ↦ rw (reverse-cons e own, answers_append (reverse own) (e ∷ []), run_write t (written own) e es x, x) (rw (append-nil (answers (reverse own))))
      | inr x ↦
          rw (reverse-cons e own, answers_append (reverse own) (e ∷ []), run_read t (written own) e es x, x)
          (ap (λ l. (l, (run t (written own) es).1))
          (ap (λ y. answers (reverse own) ++ y ∷ (run t (written own) es).0) (look_shown own e.0.item (get_or t e.0.item (0, 0)) ∙ r.0 x)
          ∙ sym (append_assoc (answers (reverse own)) (answer e ∷ []) (run t (written own) es).0)))
    ]

run_alone : (t : Table) (own : Past) → Repeats t own → run t [] (reverse own) ≡ (answers (reverse own), alone own t)
unfolding run alone
run_alone t own r = run_reverse t own [] r ∙ ap₂ (λ a b. (a, b)) (append-nil (answers (reverse own))) (map_from_same 0 (look (written own)) (shown own) t (λ i r h. look_shown own i r))

-- One transaction more

serially_last : (t : Table) (xs : List (List Event)) (x : List Event) → serially t (xs ++ (x ∷ [])) ≡ ((serially t xs).0 ++ ((run (serially t xs).1 [] x).0 ∷ []), (run (serially t xs).1 [] x).1)
unfolding serially
serially_last t [] x = refl
serially_last t (y ∷ xs) x = rw (serially_last (run t [] y).1 xs x)

-- whoever committed did in the whole past what it had done at its commit
serially_past : (t : Table) (h : House) (whole past : Past) → Closed h whole past → Serial t past → serially t (map (λ n. work n (reverse whole)) (commits (reverse past))) ≡ (map (λ n. answers (work n (reverse whole))) (commits (reverse past)), serial t past)
unfolding commits serially serial
serially_past t h whole [] c s = refl
serially_past t h whole (e ∷ past) c s =
    rw (reverse-cons e past, commits_append (reverse past) (e ∷ []))
    (elim (cases_Bool (done e commit)) [
      | inl x ↦
          let n : Name = name e in
          let own : Past = doings n past in
          let w : work n (reverse whole) ≡ reverse own = work_reverse n whole ∙ ap reverse (c.0 x).1 in
          rw (x, map_append (λ k. work k (reverse whole)) (commits (reverse past)) (n ∷ []), map_append (λ k. answers (work k (reverse whole))) (commits (reverse past)) (n ∷ []))
          (serially_last t (map (λ k. work k (reverse whole)) (commits (reverse past))) (work n (reverse whole))
          ∙ rw (serially_past t h whole past c.1 s.1, w, run_alone (serial t past) own (s.0 x)))
      | inr x ↦ rw (x, append-nil (commits (reverse past))) (serially_past t h whole past c.1 s.1)
    ])

-- THE THEOREM

pub untouched_demand : OfUntouched
unfolding Demand3
untouched_demand h U qs =
    let I = known (untouched_known U) qs in
    let past : Past = reverse (trace h qs) in
    let r : trace h qs ≡ reverse past = sym (reverse-reverse (trace h qs)) in
    rw r (serially_past (table h) _ past past I.closed I.repeats ∙ ap (λ x. (map (λ n. answers (work n (reverse past))) (commits (reverse past)), x)) I.ends)

pub demand : OfOpened
demand levels table rule qs = untouched_demand (opening levels table rule).house (opening_untouched levels table rule) qs

-- Requests that come in two parts

pub trace_append : (h : House) (qs rs : List Request) → trace h (qs ++ rs) ≡ trace h qs ++ trace (finally h qs) rs
unfolding trace finally
trace_append h [] rs = refl
trace_append h (q ∷ qs) rs = ap (λ l. (q, (stepped h q).reply) ∷ l) (trace_append (stepped h q).house qs rs)
