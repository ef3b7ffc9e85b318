-- The words in which the marked examples are written: requests, replies, and what an example says.
-- Assumes nothing.
use Rattle.std.specs.Prelude.{ℕ, List, [], ◌∷◌, ◌++◌, map}
use Rattle.house.specs.declared.Place.{Place}
use Rattle.house.specs.declared.Reply.{Reply}
use Rattle.house.specs.declared.Request.{Request}
use Rattle.house.specs.declared.Rule.{Rule}
use Rattle.house.specs.House.{place_at}
use Rattle.house.specs.Rules.{begin, read, write, certify, commit, abort, ask}
use Rattle.house.specs.Opening.{number_of, opening}
use Rattle.house.specs.Run.{Event, finally, replies}

-- Requests, with the fields that each uses

abbrev request : ℕ → ℕ → ℕ → ℕ → ℕ → Request
request operation level item ticket value = record { operation = operation; level = level; item = item; ticket = ticket; value = value }

abbrev pub begins : ℕ → Request
begins l = request begin l 0 0 0

abbrev pub reads : ℕ → ℕ → ℕ → Request
reads l t i = request read l i t 0

abbrev pub writes : ℕ → ℕ → ℕ → ℕ → Request
writes l t i v = request write l i t v

abbrev pub certifies : ℕ → ℕ → Request
certifies l t = request certify l 0 t 0

abbrev pub commits : ℕ → ℕ → Request
commits l t = request commit l 0 t 0

abbrev pub aborts : ℕ → ℕ → Request
aborts l t = request abort l 0 t 0

abbrev pub asks : ℕ → ℕ → Request
asks l t = request ask l 0 t 0

-- a read that carries a value
abbrev pub reads_with : ℕ → ℕ → ℕ → ℕ → Request
reads_with l t i v = request read l i t v

-- a whole reply: number, operation, item, ticket, value, version
abbrev pub says : ℕ → ℕ → ℕ → ℕ → ℕ → ℕ → Reply
says number operation item ticket value version = record { number = number; operation = operation; item = item; ticket = ticket; value = value; version = version }

-- a begin that is done
abbrev pub begun : ℕ → ℕ → Event
begun l t = (begins l, says 0 0 0 t 0 0)

-- An example: from a house opened with these levels and this table under this rule, after `before` (each request with the reply that it
-- gets), the request gets the reply, and the house then shows these places
pub record Example : Type 0 where
  pub levels : List ℕ
  pub table : List ℕ
  pub rule : Rule
  pub before : List Event
  pub request : Request
  pub reply : Reply
  pub places : List (ℕ × Place)

-- all that an example asks, in order, each with its reply
abbrev pub talk : Example → List Event
talk x = x.before ++ (x.request, x.reply) ∷ []

-- What the desk gives where the example speaks: the number of the opening, every reply, and the places named

abbrev pub Report : Type 0
Report = ℕ × List Reply × List Place

unfoldable pub given : Example → Report
given x =
    let o = opening x.levels x.table x.rule in
    let asked = map (λ e. e.0) (talk x) in
    let places = (finally o.house asked).places in
    (number_of o, replies o.house asked, map (λ s. place_at places s.0) x.places)

unfoldable pub expected : Example → Report
expected x = (0, map (λ e. e.1) (talk x), map (λ s. s.1) x.places)
