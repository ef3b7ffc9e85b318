-- The law of the house: what every request keeps of locks, places and tickets, as far as demand 3 rests on it.
-- Every change is made by the transaction at one place, `me`. `Frame` is what the others keep of it and `Own` what holds of
-- me's own cells after it, so that the cases "is it me?" are told apart here, once for all operations.
-- Assumes nothing.
use Prim.Native.Nat.{ℕ, ◌<◌}
use mathlib.Core.Path.{◌≡◌, sym, ap, ◌∙◌}
use mathlib.Core.Logic.{◌≢◌, ◌⊎◌, inl, inr}
use mathlib.Core.Bool.{Bool, true, false, ◌||◌}
use mathlib.Core.List.{List}
use lib.ListN.{get_or, get_or-map}
use Rattle.house.specs.declared.House.{House}
use Rattle.house.specs.declared.Mark.{Mark}
use Rattle.house.specs.declared.Mark.TheVariants.{Read, Write, Certify, Signalled}
use Rattle.house.specs.declared.Rule.{Rule}
use Rattle.house.specs.declared.Rule.TheVariants.{A}
use Rattle.house.specs.declared.Standing.{Standing}
use Rattle.house.specs.Cell.{has, cell_at, another_holds}
use Rattle.house.specs.House.{fixed, Sizes, dominates, above, level_of, blank, item_at, pending_at, place_at, is_free, is_active, is_certified}
use Rattle.house.specs.Rules.{another_claims}
use Rattle.reach.specs.Kept.{Open, Issued}
use Rattle.house.proofs.Holders.{another_marked}
use Rattle.std.proofs.lemmas.Bool.{false_from_ne_true, or_left, or_right, or_parts}
use Rattle.house.proofs.Tests.{same, clash, or_elim}

-- the cell says that its item is written: with the write lock or, once certified, with the certify lock
unfoldable pub held : ℕ → Bool
held c = has Write c || has Certify c

pub held_write : (c : ℕ) → has Write c ≡ true → held c ≡ true
unfolding held
held_write c e = or_left (has Write c) (has Certify c) e

pub held_certify : (c : ℕ) → has Certify c ≡ true → held c ≡ true
unfolding held
held_certify c e = or_right (has Write c) (has Certify c) e

pub held_neither : (c : ℕ) → held c ≡ false → (has Write c ≡ false) × (has Certify c ≡ false)
unfolding held
held_neither c e = or_parts (has Write c) (has Certify c) e

-- the cell c of an item with level x and version v, and of a place with level l and standing s, in such an order of the levels
pub record CellLaw (order : List ℕ) (x v l : ℕ) (s : Standing) (c : ℕ) : Type 0 where
  pub idle : is_free s ≡ true → c ≡ 0
  pub writing : has Write c ≡ true → is_active s ≡ true
  pub certifying : has Certify c ≡ true → is_certified s ≡ true
  pub below : has Read c ≡ true → dominates order l x ≡ true
  pub heard : has Signalled c ≡ true → has Read c ≡ true
  pub owned : held c ≡ true → x ≡ l
  pub room : held c ≡ true → v < 4294967295

-- a cell with a read lock from level a, on an item that level b has certified
pub record Warned (order : List ℕ) (rule : Rule) (a b c : ℕ) : Type 0 where
  pub higher : above order a b ≡ true
  pub signal : rule ≡ A → has Signalled c ≡ true

pub record Law (h : House) : Type 0 where
  pub sizes : Sizes h
  pub cells : (p i : ℕ) → p < 32 → i < 64 → CellLaw h.order (item_at h.items i).level (item_at h.items i).version (level_of p) (place_at h.places p).standing (cell_at h.cells p i)
  pub sole : (p q i : ℕ) → p < 32 → q < 32 → i < 64 → held (cell_at h.cells p i) ≡ true → held (cell_at h.cells q i) ≡ true → p ≡ q
  pub warned : (p q i : ℕ) → p < 32 → q < 32 → i < 64 → q ≢ p → has Certify (cell_at h.cells p i) ≡ true → has Read (cell_at h.cells q i) ≡ true → Warned h.order h.rule (level_of q) (level_of p) (cell_at h.cells q i)
  pub apart : (p q : ℕ) → p < 32 → q < 32 → Open h p → Open h q → level_of p ≡ level_of q → (place_at h.places p).ticket ≡ (place_at h.places q).ticket → p ≡ q
  pub issued : (p : ℕ) → p < 32 → Open h p → Issued h (level_of p) (place_at h.places p).ticket

-- A clear cell breaks no law

pub clear_has : (m : Mark) (c : ℕ) → c ≡ 0 → has m c ≡ false
unfolding has
clear_has Read c z = ap (has Read) z
clear_has Write c z = ap (has Write) z
clear_has Certify c z = ap (has Certify) z
clear_has Signalled c z = ap (has Signalled) z

pub clear_held : (c : ℕ) → c ≡ 0 → held c ≡ false
unfolding held
clear_held c z = rw (clear_has Write c z) (clear_has Certify c z)

pub clear_lawful : (c : ℕ) → c ≡ 0 → (order : List ℕ) (x v l : ℕ) (s : Standing) → CellLaw order x v l s c
clear_lawful c z order x v l s =
    record {
      idle = λ f. z;
      writing = λ w. clash w (clear_has Write c z);
      certifying = λ w. clash w (clear_has Certify c z);
      below = λ w. clash w (clear_has Read c z);
      heard = λ w. clash w (clear_has Signalled c z);
      owned = λ w. clash w (clear_held c z);
      room = λ w. clash w (clear_held c z);
    }

-- nor does a house where nobody stands and no lock is set
pub clear_law : {h : House} → Sizes h → ((p : ℕ) → p < 32 → is_free (place_at h.places p).standing ≡ true) → ((p i : ℕ) → p < 32 → i < 64 → cell_at h.cells p i ≡ 0) → Law h
clear_law z free clear =
    record {
      sizes = z;
      cells = λ p i b a. clear_lawful _ (clear p i b a) _ _ _ _ _;
      sole = λ p q i b c a x y. clash x (clear_held _ (clear p i b a));
      warned = λ p q i b c a n x y. clash y (clear_has Read _ (clear q i c a));
      apart = λ p q b c x y l t. clash (free p b) x;
      issued = λ p b x. clash (free p b) x;
    }

-- what another has written on an item that a level dominates, that level dominates
pub claimed_below : {h : House} → Law h → (l me p i : ℕ) → p < 32 → i < 64 → dominates h.order l (item_at h.items i).level ≡ true → another_claims h.cells me i p ≡ true → dominates h.order l (level_of p) ≡ true
unfolding another_claims
claimed_below {h} L l me p i b a d y =
    let own = (L.cells p i b a).owned in
    or_elim (another_holds h.cells Write me i p) (another_holds h.cells Certify me i p) y
    (λ w. rw (own (held_write _ (another_marked h.cells Write me i p w))) at d)
    (λ w. rw (own (held_certify _ (another_marked h.cells Certify me i p w))) at d)

-- what one has written, no other has
pub unheld : {h : House} → Law h → (p q i : ℕ) → p < 32 → q < 32 → i < 64 → p ≢ q → held (cell_at h.cells q i) ≡ true → held (cell_at h.cells p i) ≡ false
unheld {h} L p q i b c a n y = false_from_ne_true _ (λ x. n (L.sole p q i b c a x y))

-- A CHANGE by the transaction at `me`. What an opening fixed stays, and is spoken of as it is in the house before

-- what a cell c of another place becomes: at most signalled
pub record Spared (c d : ℕ) : Type 0 where
  pub clear : c ≡ 0 → d ≡ 0
  pub reading : has Read d ≡ has Read c
  pub writing : has Write d ≡ has Write c
  pub certifying : has Certify d ≡ has Certify c
  pub signal : has Signalled c ≡ true → has Signalled d ≡ true
  pub heard : has Signalled d ≡ true → (has Signalled c ≡ true) ⊎ (has Read c ≡ true)

pub spared_same : {c d : ℕ} → d ≡ c → Spared c d
spared_same e = record { clear = λ z. e ∙ z; reading = ap (has Read) e; writing = ap (has Write) e; certifying = ap (has Certify) e; signal = λ s. ap (has Signalled) e ∙ s; heard = λ s. inl (sym (ap (has Signalled) e) ∙ s) }

pub record Frame (h h' : House) (me : ℕ) : Type 0 where
  pub fixed : fixed h' ≡ fixed h
  pub sizes : Sizes h'
  pub place : (p : ℕ) → p < 32 → p ≢ me → place_at h'.places p ≡ place_at h.places p
  pub cell : (p i : ℕ) → p < 32 → i < 64 → p ≢ me → Spared (cell_at h.cells p i) (cell_at h'.cells p i)
  -- an item that another has written is as it was, in its row and in its pending value
  pub item : (p i : ℕ) → p < 32 → i < 64 → p ≢ me → held (cell_at h.cells p i) ≡ true → (item_at h'.items i ≡ item_at h.items i) × (pending_at h'.pending i ≡ pending_at h.pending i)
  -- so is the row that another has read, unless that cell is signalled
  pub row : (p i : ℕ) → p < 32 → i < 64 → p ≢ me → has Read (cell_at h.cells p i) ≡ true → has Signalled (cell_at h'.cells p i) ≡ false → item_at h'.items i ≡ item_at h.items i
  pub issued : (l t : ℕ) → Issued h l t → Issued h' l t

pub record Own (h h' : House) (me : ℕ) : Type 0 where
  pub cells : (i : ℕ) → i < 64 → CellLaw h.order (item_at h.items i).level (item_at h'.items i).version (level_of me) (place_at h'.places me).standing (cell_at h'.cells me i)
  pub sole : (p i : ℕ) → p < 32 → i < 64 → p ≢ me → held (cell_at h'.cells me i) ≡ true → held (cell_at h.cells p i) ≡ false
  pub warns : (p i : ℕ) → p < 32 → i < 64 → p ≢ me → has Certify (cell_at h'.cells me i) ≡ true → has Read (cell_at h.cells p i) ≡ true → Warned h.order h.rule (level_of p) (level_of me) (cell_at h'.cells p i)
  pub warned : (p i : ℕ) → p < 32 → i < 64 → p ≢ me → has Certify (cell_at h.cells p i) ≡ true → has Read (cell_at h'.cells me i) ≡ true → Warned h.order h.rule (level_of me) (level_of p) (cell_at h'.cells me i)
  pub apart : (p : ℕ) → p < 32 → p ≢ me → Open h' me → Open h p → level_of p ≡ level_of me → (place_at h.places p).ticket ≢ (place_at h'.places me).ticket
  pub issued : Open h' me → Issued h' (level_of me) (place_at h'.places me).ticket

-- of one whose cells are clear afterwards, what is left to say is its name
pub clear_own : {h h' : House} {me : ℕ}
    → ((i : ℕ) → i < 64 → cell_at h'.cells me i ≡ 0)
    → ((p : ℕ) → p < 32 → p ≢ me → Open h' me → Open h p → level_of p ≡ level_of me → (place_at h.places p).ticket ≢ (place_at h'.places me).ticket)
    → (Open h' me → Issued h' (level_of me) (place_at h'.places me).ticket)
    → Own h h' me
clear_own clear apart issued =
    record {
      cells = λ i a. clear_lawful _ (clear i a) _ _ _ _ _;
      sole = λ p i b a n g. clash g (clear_held _ (clear i a));
      warns = λ p i b a n c r. clash c (clear_has Certify _ (clear i a));
      warned = λ p i b a n c r. clash r (clear_has Read _ (clear i a));
      apart = apart;
      issued = issued;
    }

-- where an opening fixed the same, there are as many items, each at its level, and the order and the rule are the same

pub same_count : (h g : House) → fixed h ≡ fixed g → h.count ≡ g.count
unfolding fixed
same_count h g e = ap (λ x. x.0) e

pub same_order : (h g : House) → fixed h ≡ fixed g → h.order ≡ g.order
unfolding fixed
same_order h g e = ap (λ x. x.1) e

pub same_rule : (h g : House) → fixed h ≡ fixed g → h.rule ≡ g.rule
unfolding fixed
same_rule h g e = ap (λ x. x.2) e

pub same_level : (h g : House) → fixed h ≡ fixed g → (i : ℕ) → (item_at h.items i).level ≡ (item_at g.items i).level
unfolding fixed
same_level h g e i = sym (get_or-map (λ x. x.level) h.items i blank) ∙ ap (λ x. get_or x.3 i 0) e ∙ get_or-map (λ x. x.level) g.items i blank

module _ {h h' : House} {me : ℕ} (L : Law h) (F : Frame h h' me) where
  pub held_kept : (p i : ℕ) → p < 32 → i < 64 → p ≢ me → held (cell_at h'.cells p i) ≡ held (cell_at h.cells p i)
  unfolding held
  held_kept p i b a n = let s = F.cell p i b a n in rw (s.writing, s.certifying)

  other_lawful : (p i : ℕ) → p < 32 → i < 64 → p ≢ me → CellLaw h.order (item_at h.items i).level (item_at h'.items i).version (level_of p) (place_at h'.places p).standing (cell_at h'.cells p i)
  other_lawful p i b a n =
      let s = F.cell p i b a n in
      let k = L.cells p i b a in
      let hk = held_kept p i b a n in
      rw (F.place p b n)
      (record {
        idle = λ f. s.clear (k.idle f);
        writing = λ w. k.writing (sym s.writing ∙ w);
        certifying = λ c. k.certifying (sym s.certifying ∙ c);
        below = λ r. k.below (sym s.reading ∙ r);
        heard = λ x. s.reading ∙ elim (s.heard x) [ inl y ↦ k.heard y | inr y ↦ y ];
        owned = λ g. k.owned (sym hk ∙ g);
        room = λ g. rw (F.item p i b a n (sym hk ∙ g)).0 (k.room (sym hk ∙ g));
      })

  pub lawful : me < 32 → Own h h' me → Law h'
  lawful m O =
      record {
        sizes = F.sizes;
        cells = λ p i b a. rw (same_order h' h F.fixed, same_level h' h F.fixed i) (elim (same p me) [ inl e ↦ rw e (O.cells i a) | inr n ↦ other_lawful p i b a n ]);
        sole = λ p q i b c a x y.
            elim (same p me) [
              | inl e ↦ elim (same q me) [ inl f ↦ e ∙ sym f | inr n ↦ clash (sym (held_kept q i c a n) ∙ y) (O.sole q i c a n (rw e at x)) ]
              | inr n ↦ elim (same q me) [
                | inl f ↦ clash (sym (held_kept p i b a n) ∙ x) (O.sole p i b a n (rw f at y))
                | inr k ↦ L.sole p q i b c a (sym (held_kept p i b a n) ∙ x) (sym (held_kept q i c a k) ∙ y)
              ]
            ];
        warned = λ p q i b c a d x y.
            rw (same_order h' h F.fixed, same_rule h' h F.fixed)
            (elim (same p me) [
              | inl e ↦ rw e (O.warns q i c a (λ f. d (f ∙ sym e)) (rw e at x) (sym (F.cell q i c a (λ f. d (f ∙ sym e))).reading ∙ y))
              | inr n ↦ elim (same q me) [
                | inl f ↦ rw f (O.warned p i b a n (sym (F.cell p i b a n).certifying ∙ x) (rw f at y))
                | inr k ↦
                    let w = L.warned p q i b c a d (sym (F.cell p i b a n).certifying ∙ x) (sym (F.cell q i c a k).reading ∙ y) in
                    record { higher = w.higher; signal = λ r. (F.cell q i c a k).signal (w.signal r) }
              ]
            ]);
        apart = λ p q b c x y l t.
            elim (same p me) [
              | inl e ↦ elim (same q me) [
                | inl f ↦ e ∙ sym f
                | inr n ↦ absurd (O.apart q c n (rw e at x) (rw (F.place q c n) at y) (sym l ∙ ap level_of e) (cc (F.place q c n)))
              ]
              | inr n ↦ elim (same q me) [
                | inl f ↦ absurd (O.apart p b n (rw f at y) (rw (F.place p b n) at x) (l ∙ ap level_of f) (cc (F.place p b n)))
                | inr k ↦ L.apart p q b c (rw (F.place p b n) at x) (rw (F.place q c k) at y) l (cc (F.place p b n, F.place q c k))
              ]
            ];
        issued = λ p b x.
            elim (same p me) [
              | inl e ↦ rw e (O.issued (rw e at x))
              | inr n ↦ rw (F.place p b n) (F.issued _ _ (L.issued p b (rw (F.place p b n) at x)))
            ];
      }
