-- Demand 3 over bytes: what is read from the wire is the trace of the requests that were answered.
-- Assumes nothing.
use Prim.Native.Nat.{ℕ, zero, suc, ◌+◌}
use mathlib.Core.Path.{◌≡◌, refl, sym, ap, ap₂, ◌∙◌}
use mathlib.Core.List.{List, [], ◌∷◌, ◌++◌, append_assoc}
use lib.ListN.{take, drop}
use lib.Seq.{get_or-drop}
use Rattle.house.specs.declared.House.{House}
use Rattle.house.specs.declared.Reply.{Reply}
use Rattle.house.specs.declared.Request.{Request}
use Rattle.house.specs.Rules.{stepped}
use Rattle.house.specs.Opening.{opening}
use Rattle.house.specs.Run.{finally, replies}
use Rattle.wire.specs.Wire.{reply_at, reply_bytes}
use Rattle.wire.specs.RoundTrip.{FitRequest, FitReply}
use Rattle.wire.proofs.RoundTrip.{reply_read_back}
use Rattle.desk.specs.Turn.{requests, wired, share}
use Rattle.maps.specs.Map.{reads, handled}
use Rattle.maps.specs.Sent.{Numbers}
use Rattle.maps.specs.Calls.{Call, by_turn, by_map, asked, reported, told, asked_by}
use Rattle.maps.proofs.Sent.{first_fits, rest_fit}
use Rattle.maps.proofs.Calls.{houses, past, tells, calls_are_requests}
use Rattle.serial.specs.Demand.{trace, Demand3}
use Rattle.serial.proofs.Demand.{trace_append, demand}
use Rattle.serial_bytes.specs.Bytes.{exchanged, events, Bytes, Sized, InBytes, Demand3OverBytes, OverBytes}
use Rattle.serial_bytes.proofs.Range.{Fits, step_fits, opening_fits, request_fits}

pub bytes_drop : (n : ℕ) (b : List ℕ) → Bytes b → Bytes (drop n b)
bytes_drop n b s k = rw (get_or-drop n b k 0) (s (n + k))

-- a reply before others
reply_first : (r : Reply) (rest : List ℕ) → FitReply r → reply_at (reply_bytes r ++ rest) 0 ≡ r
unfolding reply_at reply_bytes
reply_first r rest f = reply_read_back r f

drop_reply : (r : Reply) (rest : List ℕ) → drop 16 (reply_bytes r ++ rest) ≡ rest
unfolding reply_bytes
drop_reply r rest = refl

-- REQUESTS WHOSE NUMBERS FIT THEIR BYTES

AllFit : List Request → Type 0
AllFit [] = Unit {0}
AllFit (q ∷ qs) = FitRequest q × AllFit qs

fits_after : (h : House) (qs : List Request) → Fits h → AllFit qs → Fits (finally h qs)
unfolding AllFit finally
fits_after h [] f s = f
fits_after h (q ∷ qs) f s = fits_after (stepped h q).house qs (step_fits f q s.0).0 s.1

traced : (h : House) (qs : List Request) (rest : List ℕ) → Fits h → AllFit qs → exchanged qs (wired (replies h qs) ++ rest) ≡ trace h qs
unfolding AllFit exchanged wired replies trace
traced h [] rest f s = refl
traced h (q ∷ qs) rest f s =
    let o = stepped h q in
    let k = step_fits f q s.0 in
    let more = wired (replies o.house qs) in
    rw (append_assoc (reply_bytes o.reply) more rest, reply_first o.reply (more ++ rest) k.1, drop_reply o.reply (more ++ rest))
    (ap (λ l. (q, o.reply) ∷ l) (traced o.house qs rest k.0 s.1))

requests_fit : (n : ℕ) (input : List ℕ) → Bytes input → AllFit (requests n input)
unfolding AllFit requests
requests_fit zero input s = tt
requests_fit (suc n) input s = (request_fits input s, requests_fit n (drop 12 input) (bytes_drop 12 input s))

reads_fit : (level ticket : ℕ) (items : List ℕ) (n : ℕ) → Numbers ticket items → AllFit (reads level ticket (take n items))
unfolding AllFit
reads_fit level ticket items zero s = tt
reads_fit level ticket [] (suc n) s = tt
reads_fit level ticket (i ∷ items) (suc n) s = (first_fits level s, reads_fit level ticket items n (rest_fit s))

asked_fit : (c : Call) → Sized c → AllFit (asked c)
asked_fit (by_turn input room most) s = requests_fit (share most input room) input s
asked_fit (by_map level ticket items room) s = reads_fit level ticket items (handled items room) s

-- n requests of an input
pub turn_trace : (n : ℕ) (h : House) (input rest : List ℕ) → Fits h → Bytes input → exchanged (requests n input) (wired (replies h (requests n input)) ++ rest) ≡ trace h (requests n input)
turn_trace n h input rest f s = traced h (requests n input) rest f (requests_fit n input s)

-- ALL CALLS

events_asked : (h : House) (cs : List Call) → Fits h → InBytes cs → events h cs ≡ trace h (asked_by cs)
unfolding events asked_by trace InBytes
events_asked h [] f b = refl
events_asked h (c ∷ cs) f b =
    let qs = asked c in
    let s = asked_fit c b.0 in
    let here : exchanged qs (told h c) ≡ trace h qs = rw (tells h c) (traced h qs (past c) f s) in
    let then : events (reported h c).house cs ≡ trace (finally h qs) (asked_by cs) = rw (houses h c) (events_asked (finally h qs) cs (fits_after h qs f s) b.1) in
    ap₂ ◌++◌ here then ∙ sym (trace_append h qs (asked_by cs))

-- THE THEOREM

pub over_bytes : OverBytes
unfolding Demand3OverBytes Demand3
over_bytes levels order rule cs b =
    let h = (opening levels order rule).house in
    rw (events_asked h cs (opening_fits levels order rule) b, (calls_are_requests h cs).1) (demand levels order rule (asked_by cs))
