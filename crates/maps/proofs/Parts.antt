-- A map in parts: one part is a turn on its requests, and parts one after another are the whole.
-- Assumes nothing.
use Prim.Native.Nat.{ℕ, zero, suc, ◌+◌, ◌-◌, ◌*◌, ◌/◌, ◌≤◌, min}
use native.Mathlib.Omega.{arith}
use mathlib.Core.Path.{◌≡◌, refl, sym, ap, ◌∙◌}
use mathlib.Core.List.{List, [], ◌∷◌, ◌++◌, append-nil, map-append}
use lib.ListN.{length, take, drop, length-drop, length-map, length-append, drop_of_length-le}
use lib.Seq.{length-take-le, take_all, take-add, take_at, drop_at, drop-drop}
use borrow.Rule.Slice.PartMut.{put_mid}
use Rattle.house.specs.declared.House.{House}
use Rattle.house.specs.declared.Request.{Request}
use Rattle.house.specs.Run.{finally, replies}
use Rattle.house.proofs.Runs.{finally_append}
use Rattle.desk.specs.declared.Served.{Served}
use Rattle.desk.specs.Turn.{requests, wired, share, turned, answered}
use Rattle.desk.proofs.Laws.{requests_add, length_requests}
use Rattle.desk.proofs.TwoTurns.{stays, lent, written_on}
use Rattle.maps.specs.Map.{read_of, reads, handled, mapped, filled}

-- ONE PART: a turn on its requests is its map

-- fewer requests of the same bytes
requests_fewer : (m k : ℕ) (b : List ℕ) → m ≤ k → requests m b ≡ take m (requests k b)
requests_fewer m k b l =
    let e : k ≡ m + (k - m) = omega arith in
    sym (rw (e, requests_add m (k - m) b) (take_at (requests m b) (requests (k - m) (drop (m * 12) b)) m (length_requests m b)))

reads_take : (level ticket : ℕ) (items : List ℕ) (m : ℕ) → take m (reads level ticket items) ≡ reads level ticket (take m items)
reads_take level ticket items zero = refl
reads_take level ticket [] (suc m) = refl
reads_take level ticket (i ∷ items) (suc m) = ap (λ l. read_of level ticket i ∷ l) (reads_take level ticket items m)

pub one_part : (level ticket : ℕ) (part : List ℕ) (h : House) (room b : List ℕ) → length part * 12 ≤ length b → requests (length part) b ≡ reads level ticket part → (t : Served) (out : List ℕ) → (t ≡ turned h b room (length part)) × (out ≡ answered h b room (length part)) → (t ≡ mapped h level ticket part room) × (out ≡ filled h level ticket part room)
unfolding turned answered share mapped filled handled
one_part level ticket part h room b whole asks t out served =
    let m = min (length part) (length room / 16) in
    let count : share (length part) b room ≡ m = omega arith in
    let asked : requests m b ≡ reads level ticket (take m part) = requests_fewer m (length part) b (omega arith) ∙ ap (take m) asks ∙ reads_take level ticket part m in
    (served.0 ∙ rw (count, asked), served.1 ∙ rw (count, asked))

-- PART AFTER PART

-- the first n items read: the house after them, and the reply bytes
module _ (level ticket : ℕ) (items : List ℕ) (n : ℕ) (h : House) where
  abbrev old : List Request
  old = reads level ticket (take n items)

  abbrev pub housed_at : House
  housed_at = finally h old

  abbrev pub written_at : List ℕ → List ℕ
  written_at room = wired (replies h old) ++ drop (n * 16) room

  many : n ≤ length items → length old ≡ n
  many within = length-map (take n items) (read_of level ticket) ∙ length-take-le n items within

  -- m more
  module _ (m : ℕ) where
    abbrev new : List Request
    new = reads level ticket (take m (drop n items))

    both : reads level ticket (take (n + m) items) ≡ old ++ new
    both = rw (take-add n m items) (map-append (read_of level ticket) (take n items) (take m (drop n items)))

    housed_add : finally housed_at new ≡ finally h (reads level ticket (take (n + m) items))
    housed_add = sym (rw both (finally_append h old new))

    written_add : (room : List ℕ) → n ≤ length items → wired (replies h old) ++ (wired (replies housed_at new) ++ drop (m * 16) (drop (n * 16) room)) ≡ wired (replies h (reads level ticket (take (n + m) items))) ++ drop ((n + m) * 16) room
    written_add room within = sym (rw both (written_on h old n (many within) room new m))

-- The first n items are read: the house is h, and the reply bytes are out
pub record ReadTo (level ticket : ℕ) (items : List ℕ) (h₀ : House) (room out : List ℕ) (h : House) (n : ℕ) : Type 0 where
  pub listed : n ≤ length items
  pub placed : n * 16 ≤ length room
  pub same : length out ≡ length room
  pub housed : h ≡ housed_at level ticket items n h₀
  pub written : out ≡ written_at level ticket items n h₀ room

-- The next part is read, of the items that are left, with the reply bytes that are left
module _ {level ticket : ℕ} {items : List ℕ} {h₀ : House} {room out : List ℕ} {h : House} {n : ℕ} (s : ReadTo level ticket items h₀ room out h n) where
  abbrev rest : List ℕ
  rest = take (length out - n * 16) (drop (n * 16) out)

  lent_is : rest ≡ drop (n * 16) room
  lent_is =
      take_all (length out - n * 16) (drop (n * 16) out) (rw (length-drop (n * 16) out) (omega arith))
      ∙ rw s.written (lent h₀ (reads level ticket (take n items)) n (many level ticket items n h₀ s.listed) room)

  -- as many as are lent are read, since there are places for all items
  module _ (part behind : List ℕ) (next : drop n items ≡ part ++ behind) (places : length items * 16 ≤ length room) where
    within : n + length part ≤ length items
    within =
        let e : length items - n ≡ length part + length behind = sym (length-drop n items) ∙ ap length next ∙ length-append part behind in
        omega (arith, s.listed)

    -- behind them is what is left for the next one
    pub behind_is : behind ≡ drop (n + length part) items
    behind_is = sym (sym (drop-drop (length part) n items) ∙ ap (drop (length part)) next ∙ drop_at part behind (length part) refl)

    part_is : part ≡ take (length part) (drop n items)
    part_is = sym (ap (take (length part)) next ∙ take_at part behind (length part) refl)

    all : handled part rest ≡ length part
    unfolding handled
    all = let w = within in rw (lent_is, length-drop (n * 16) room) (omega arith)

    asks : reads level ticket (take (handled part rest) part) ≡ reads level ticket (take (length part) (drop n items))
    asks = ap (λ m. reads level ticket (take m part)) all ∙ ap (reads level ticket) (take_all (length part) part (omega arith) ∙ part_is)

    module _ {t : Served} (maps : t ≡ mapped h level ticket part rest) {given : List ℕ} (fills : given ≡ filled h level ticket part rest) where
      houses : t.house ≡ housed_at level ticket items (n + length part) h₀
      unfolding mapped
      houses = ap (λ x. x.house) maps ∙ ap (finally h) asks ∙ rw s.housed (housed_add level ticket items n h₀ (length part))

      writes : put_mid (n * 16) (length out - n * 16) out given ≡ written_at level ticket items (n + length part) h₀ room
      unfolding filled
      writes =
          let kept : take (n * 16) out ≡ wired (replies h₀ (reads level ticket (take n items))) = rw s.written (stays h₀ _ n (many level ticket items n h₀ s.listed) room) in
          let none : drop (length out - n * 16) (drop (n * 16) out) ≡ [] = drop_of_length-le (drop (n * 16) out) {i = length out - n * 16} (rw (length-drop (n * 16) out) (omega arith)) in
          rw (none, append-nil given, kept, fills, asks, all, lent_is, s.housed) (written_add level ticket items n h₀ (length part) room s.listed)

      pub part_read : {after : List ℕ} → after ≡ put_mid (n * 16) (length out - n * 16) out given → length after ≡ length room → ReadTo level ticket items h₀ room after t.house (n + length part)
      part_read e l = record { listed = within; placed = omega (arith, within); same = l; housed = houses; written = e ∙ writes }

-- THE END: as many as there are places for are all that is read of the items, and what the map tells

module _ (level ticket : ℕ) (items : List ℕ) {h₀ : House} {room out : List ℕ} {h : House} {n count told : ℕ} (c : count ≡ min (length items) (length room / 16)) (t : told ≡ min (length items) (length room / 16)) (s : ReadTo level ticket (take count items) h₀ room out h n) where
  pub all_read : length (drop n (take count items)) ≡ 0 → (record { house = h; count = told } ≡ mapped h₀ level ticket items room) × (out ≡ filled h₀ level ticket items room)
  unfolding mapped filled handled
  all_read none =
      let first = take count items in
      let long : length first ≡ count = length-take-le count items (omega arith) in
      let over : length first - n ≡ 0 = sym (length-drop n first) ∙ none in
      let whole : take n first ≡ first = take_all n first (omega arith) in
      let e : n ≡ count = omega (arith, s.listed) in
      let u : told ≡ count = t ∙ sym c in
      (rw (u, ← c) (rw (s.housed, whole) refl), s.written ∙ rw (whole, e, ← c) refl)
