-- Nodes in a list, by rising number, whose streams are settled and whose journal is closed, are joined.
use Rattle.std.proofs.Common.{◌≡◌, ◌≢◌, ℕ, zero, suc, ◌+◌, ◌-◌, ◌<◌, List, [], ◌∷◌, length, map, slice_index_or, refl, ap, sym, subst, ◌∙◌, arith}
use Rattle.pico_base.specs.declared.script.Script.{Script}
use Rattle.pico_base.specs.declared.script.Event.{Event}
use Rattle.stamp_merge.specs.declared.Stamped as merged
use Rattle.journal_core.specs.declared.stamped.Stamped.{Stamped}
use Rattle.journal_core.specs.Journal.{of_seat, BeginsWith, IsOfSeats}
use Rattle.journal_core.specs.Seated.{Lock, Seated, AreNumbered, AreAll, HasAllOf, Closes}
use Rattle.world_model.specs.World.{IsNode, numbers, node_count}
use Rattle.log_model.specs.Views.{LoggedNode}
use Rattle.log_model.specs.Logged.{IsLogged}
use Rattle.thread_laws.specs.Joined.{IsSettled, AreJoined, kept_logs}

-- node p stands at place p - 1
abbrev pub node_in : List LoggedNode → LoggedNode → ℕ → LoggedNode
node_in ls d p = slice_index_or ls (p - 1) d

abbrev pub seats_of : List LoggedNode → List Seated
seats_of ls = map (λ (l : LoggedNode). l.seat) ls

-- ---- the journal by a node's number

-- the journal has this seat's entries, and begins with what it has seen
record HasSeat (journal : List Stamped) (number : ℕ) (seat : Seated) : Type 0 where
  own : of_seat number journal ≡ seat.own
  seen : BeginsWith journal seat.seen

has-seat : (journal : List Stamped) (lock : Lock) (n : ℕ) (ls : List LoggedNode) (k : ℕ) (d : LoggedNode)
    → AreNumbered lock.id n (seats_of ls) → HasAllOf journal (seats_of ls) → k < length ls
    → HasSeat journal (n + k) (slice_index_or ls k d).seat
has-seat journal lock n [] k d are has within = absurd (omega arith)
has-seat journal lock n (l ∷ ls) zero d are has within =
    let number : l.seat.number ≡ n = are.1
    in let same : l.seat.number ≡ n + 0 = omega arith
    in record { own = subst (λ m. of_seat m journal ≡ l.seat.own) same has.0; seen = has.1 }
has-seat journal lock n (l ∷ ls) (suc k) d are has within =
    let same : n + 1 + k ≡ n + suc k = omega arith
    in subst (λ m. HasSeat journal m (slice_index_or ls k d).seat) same
    (has-seat journal lock (n + 1) ls k d are.2 has.2 (omega arith))

-- ---- all of it

-- What is known of the nodes in a list. Clauses on a place speak of any value past the list's end.
pub record AreTogether (script : Script) (ls : List LoggedNode) (lock : Lock) (journal : List Stamped) : Type 0 where
  pub count : length ls ≡ node_count script
  pub number : (k : ℕ) (d : LoggedNode) → k < length ls → (slice_index_or ls k d).number ≡ k + 1
  pub logged : (k : ℕ) (d : LoggedNode) → k < length ls → IsLogged script (slice_index_or ls k d)
  pub settled : (j k : ℕ) (d : LoggedNode) → j < length ls → k < length ls → j ≢ k
      → IsSettled (slice_index_or ls j d) (slice_index_or ls k d)
  pub all : AreAll lock (seats_of ls)
  pub closes : Closes lock (seats_of ls) journal
  pub seats : lock.seats ≡ node_count script

module _ (script : Script) (ls : List LoggedNode) (lock : Lock) (journal : List Stamped)
    (together : AreTogether script ls lock journal) (d : LoggedNode) where
  within : (p : ℕ) → IsNode script p → p - 1 < length ls
  within p is =
      let low = is.low in let high = is.high in let count = together.count in omega arith

  seat-at : (p : ℕ) → IsNode script p → HasSeat journal p (node_in ls d p).seat
  seat-at p is =
      let low = is.low
      in let same : 1 + (p - 1) ≡ p = omega arith
      in subst (λ n. HasSeat journal n (node_in ls d p).seat) same
      (has-seat journal lock 1 ls (p - 1) d together.all.0 together.closes.whole (within p is))

  pub are-joined : AreJoined script (node_in ls d) journal
  are-joined =
      record {
        number = λ p is.
            let low = is.low
            in let same : p - 1 + 1 ≡ p = omega arith
            in together.number (p - 1) d (within p is) ∙ same;
        logged = λ p is. together.logged (p - 1) d (within p is);
        settled = λ p q is_p is_q different.
            let low_p = is_p.low
            in let low_q = is_q.low
            in together.settled (p - 1) (q - 1) d (within p is_p) (within q is_q)
            (λ e. different (let same : p - 1 ≡ q - 1 = e in omega arith));
        own = λ p is. (seat-at p is).own;
        seen = λ p is. (seat-at p is).seen;
        order = together.closes.order;
        seats = subst (λ n. IsOfSeats n journal) together.seats together.closes.others;
      }

-- ---- the logs in a list

logs-from : (ls : List LoggedNode) (d : LoggedNode) (first : ℕ) (at : ℕ → LoggedNode)
    → ((k : ℕ) → k < length ls → at (first + k) ≡ slice_index_or ls k d)
    → map (λ p. (at p).log) (numbers first (length ls)) ≡ map (λ (l : LoggedNode). l.log) ls
logs-from [] d first at same = refl
logs-from (l ∷ ls) d first at same =
    let here : first + 0 ≡ first = omega arith
    in let own : at first ≡ l = ap at (sym here) ∙ same 0 (omega arith)
    in ap (λ (m : LoggedNode). m.log ∷ map (λ p. (at p).log) (numbers (first + 1) (length ls))) own
    ∙ ap (λ (logs : List (List (merged.Stamped Event))). l.log ∷ logs) (logs-from ls d (first + 1) at (λ k low.
    let next : first + 1 + k ≡ first + suc k = omega arith in ap at next ∙ same (suc k) (omega arith)))

-- the logs of the nodes by rising node are those of the list
pub kept-logs-are : (script : Script) (ls : List LoggedNode) (d : LoggedNode) → length ls ≡ node_count script
    → kept_logs script (node_in ls d) ≡ map (λ (l : LoggedNode). l.log) ls
kept-logs-are script ls d count =
    ap (λ n. map (λ p. (node_in ls d p).log) (numbers 1 n)) (sym count)
    ∙ logs-from ls d 1 (node_in ls d) (λ k low.
    let same : 1 + k - 1 ≡ k = omega arith in ap (λ i. slice_index_or ls i d) same)
