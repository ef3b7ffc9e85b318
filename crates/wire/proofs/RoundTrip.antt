-- Both ways on the wire.
-- Assumes nothing.
use Prim.Native.Nat.{ℕ, zero, suc, ◌+◌, ◌*◌, ◌/◌, ◌%◌, ◌<◌}
use native.Mathlib.Nat.{add-mul-div_right, add-mul-mod_self_right, div-div-eq-div-mul, div-eq_of_lt, mod-eq_of_lt, zero-add}
use native.Mathlib.Omega.{arith}
use mathlib.Core.Path.{◌≡◌, sym, ap, ◌∙◌}
use mathlib.Core.List.{List, [], ◌∷◌}
use lib.ListN.{length, get_or, drop, drop_of_length-le}
use lib.Seq.{drop-cons}
use Rattle.wire.specs.Wire.{two_bytes, four_bytes, request_at, request_bytes, reply_at, reply_bytes}
use Rattle.wire.specs.RoundTrip.{RequestReadBack, RequestSentAgain, ReplyReadBack, ReplySentAgain}

-- A number from its bytes

two_back : (n : ℕ) → n < 65536 → n % 256 + n / 256 % 256 * 256 ≡ n
two_back n h = omega arith

four_back : (n : ℕ) → n < 4294967296 → n % 256 + n / 256 % 256 * 256 + (n / 65536 % 256 + n / 16777216 % 256 * 256) * 65536 ≡ n
four_back n h =
    rw (sym (div-div-eq-div-mul n 256 256), sym (div-div-eq-div-mul n 256 65536), sym (div-div-eq-div-mul (n / 256) 256 256))
    (omega arith)

-- and the bytes from their number: the lowest, and what is above it

lowest : (a n : ℕ) → a < 256 → (a + n * 256) % 256 ≡ a
lowest a n h = add-mul-mod_self_right a n 256 ∙ mod-eq_of_lt h

upper : (a n : ℕ) → a < 256 → (a + n * 256) / 256 ≡ n
upper a n h = let p : zero < 256 = omega arith in add-mul-div_right a n p ∙ rw (div-eq_of_lt h) (zero-add n)

two_again : (a b : ℕ) (rest : List ℕ) → a < 256 → b < 256 → two_bytes (a + b * 256) rest ≡ a ∷ b ∷ rest
two_again a b rest p q = rw (lowest a b p, upper a b p, mod-eq_of_lt q)

four_again : (a b c d : ℕ) (rest : List ℕ) → a < 256 → b < 256 → c < 256 → d < 256 → four_bytes (a + b * 256 + (c + d * 256) * 65536) rest ≡ a ∷ b ∷ c ∷ d ∷ rest
four_again a b c d rest p q r s =
    let e : a + b * 256 + (c + d * 256) * 65536 ≡ a + (b + (c + d * 256) * 256) * 256 = omega arith in
    let n : ℕ = b + (c + d * 256) * 256 in
    rw (e, sym (div-div-eq-div-mul (a + n * 256) 256 256), sym (div-div-eq-div-mul (a + n * 256) 256 65536))
    (rw (lowest a n p, upper a n p)
    (rw (sym (div-div-eq-div-mul n 256 256), lowest b (c + d * 256) q, upper b (c + d * 256) q)
    (rw (lowest c d r, upper c d r, mod-eq_of_lt s))))

-- What was sent is what is read

pub request_read_back : RequestReadBack
unfolding request_at request_bytes
request_read_back q f = rw (two_back q.item f.item, four_back q.ticket f.ticket, four_back q.value f.value)

pub reply_read_back : ReplyReadBack
unfolding reply_at reply_bytes
reply_read_back r f = rw (two_back r.item f.item, four_back r.ticket f.ticket, four_back r.value f.value, four_back r.version f.version)

-- Any bytes are those of what is read from them

-- n elements from the k-th on
spelled : ℕ → ℕ → List ℕ → List ℕ
spelled zero k b = []
spelled (suc n) k b = get_or b k 0 ∷ spelled n (suc k) b

spelled_drop : (n k : ℕ) (b : List ℕ) → length b ≡ k + n → drop k b ≡ spelled n k b
unfolding spelled
spelled_drop zero k b e = drop_of_length-le b {i = k} (omega arith)
spelled_drop (suc n) k b e = drop-cons b k 0 (omega arith) ∙ ap (λ l. get_or b k 0 ∷ l) (spelled_drop n (suc k) b (omega arith))

pub request_sent_again : RequestSentAgain
unfolding request_at request_bytes spelled
request_sent_again b f =
    let s = f.small in
    rw (two_again (get_or b 2 0) (get_or b 3 0) _ (s 2) (s 3), four_again (get_or b 4 0) (get_or b 5 0) (get_or b 6 0) (get_or b 7 0) _ (s 4) (s 5) (s 6) (s 7), four_again (get_or b 8 0) (get_or b 9 0) (get_or b 10 0) (get_or b 11 0) _ (s 8) (s 9) (s 10) (s 11))
    (sym (spelled_drop 12 0 b f.length))

pub reply_sent_again : ReplySentAgain
unfolding reply_at reply_bytes spelled
reply_sent_again b f =
    let s = f.small in
    rw (two_again (get_or b 2 0) (get_or b 3 0) _ (s 2) (s 3), four_again (get_or b 4 0) (get_or b 5 0) (get_or b 6 0) (get_or b 7 0) _ (s 4) (s 5) (s 6) (s 7), four_again (get_or b 8 0) (get_or b 9 0) (get_or b 10 0) (get_or b 11 0) _ (s 8) (s 9) (s 10) (s 11), four_again (get_or b 12 0) (get_or b 13 0) (get_or b 14 0) (get_or b 15 0) _ (s 12) (s 13) (s 14) (s 15))
    (sym (spelled_drop 16 0 b f.length))
