-- What the threads leave, put together.
use Rattle.std.proofs.Common.{◌≡◌, ◌≢◌, ℕ, ◌+◌, ◌-◌, ◌<◌, ◌≤◌, List, [], ◌∷◌, ◌++◌, length, map, Some, None, refl, ap, sym, subst, ◌∙◌, arith, inl, inr, slice_index_or, take, drop}
use Rattle.std.specs.List.{AllByRecursion}
use Rattle.pico_base.specs.declared.script.Script.{Script}
use Rattle.journal_core.specs.declared.stamped.Stamped.{Stamped}
use Rattle.journal_core.specs.Journal.{of_seat, BeginsWith, IsInOrder, IsOfSeats}
use Rattle.journal_core.specs.Seated.{AreAll, AreNumbered, Closes, HasAllOf, Lock, Seated}
use Rattle.world_model.specs.World.{IsNode, numbers, node_count}
use Rattle.log_model.specs.declared.answer.LogFault.TheVariants as faults
use Rattle.log_model.specs.Views.{Line, LoggedNode, Parting}
use Rattle.log_model.specs.Logged.{IsLogged}
use Rattle.logged_laws.specs.Laws.{IsKept}
use Rattle.thread_laws.specs.Joined.{AreJoined, sent_on, taken_on}
use Rattle.node_lines.specs.declared.end.End.{End}
use Rattle.node_log.specs.Ends.{end_of}
use Rattle.pico_run.specs.Numbered.{AllFrom}
use Rattle.pico_run.specs.Grid.{AreTwins, IsGrid, Wire, wire_of, wires_of, wires_of_all}
use Rattle.pico_run.specs.Turning.{IsWorked, quiet_turns}
use Rattle.pico_run.specs.Opened.{AreOpened, IsReady}
use Rattle.pico_run.specs.Joined.{AreSettled, AreSettledRows, AreTwinRows, IsThreaded, end_other, ends_of, parting_of}
use Rattle.pico_run.proofs.Lists.{all-from-all, all-from-both, all-from-changed, all-from-step, all-from-unmap, at-number, by-numbers, length-map, map-map, map-unchanged}
use Rattle.pico_run.proofs.Meshes.{mesh-back}
use Rattle.pico_run.proofs.Settled.{AllSettled, SettledBetween, SettledWith, mesh-settled}

-- ---- each node, when its thread has ended

-- it made its turns, and isn't spent
pub record IsDone (script : Script) (lock : Lock) (number : ℕ) (l : LoggedNode) : Type 0 where
  pub number_is : l.number ≡ number
  pub logged : IsLogged script l
  pub lock_is : l.seat.lock ≡ lock.id
  pub quiet : l.fault ≡ None → quiet_turns ≤ l.quiet

-- the nodes after their threads
pub record AreDone (script : Script) (lock : Lock) (nodes : List LoggedNode) : Type 0 where
  pub seats : lock.seats ≡ node_count script
  pub count : length nodes ≡ node_count script
  pub done : AllFrom (IsDone script lock) 1 nodes
  pub grid : IsGrid (node_count script) (wires_of_all nodes)

record IsWorkedAt (script : Script) (lock : Lock) (number : ℕ) (l : LoggedNode) : Type 0 where
  pub number_is : l.number ≡ number
  pub kept : IsKept script l
  pub lock_is : l.seat.lock ≡ lock.id
  pub quiet : l.fault ≡ None → quiet_turns ≤ l.quiet

worked-at : (script : Script) (lock : Lock) (n : ℕ) (old new : LoggedNode) → IsReady script lock n old
    → IsWorked script old new → IsWorkedAt script lock n new
worked-at script lock n old new ready w =
    record {
      number_is = w.same.number ∙ ready.number_is;
      kept = w.kept;
      lock_is = w.same.lock ∙ ready.can_turn.lock_is;
      quiet = w.quiet;
    }

is-logged : (script : Script) (l : LoggedNode) → IsKept script l → l.fault ≢ Some faults.Memory → IsLogged script l
is-logged script l (inl spent) whole = absurd (whole spent)
is-logged script l (inr logged) whole = logged

pub are-done : (script : Script) (lock : Lock) (olds news : List LoggedNode) → AreOpened script lock olds
    → length news ≡ length olds
    → ((k : ℕ) (d : LoggedNode) → k < length olds → IsWorked script (slice_index_or olds k d) (slice_index_or news k d))
    → AllByRecursion (λ (l : LoggedNode). l.fault ≢ Some faults.Memory) news → AreDone script lock news
are-done script lock olds news opened same worked whole =
    let at : AllFrom (IsWorkedAt script lock) 1 news =
    all-from-changed (IsReady script lock) (IsWorkedAt script lock) (IsWorked script) (worked-at script lock) 1 olds
    news same worked opened.ready
    in record {
      seats = opened.seats;
      count = same ∙ opened.count;
      done =
          all-from-step (λ n l. IsWorkedAt script lock n l × (l.fault ≢ Some faults.Memory)) (IsDone script lock)
          (λ n l h. record {
            number_is = h.0.number_is;
            logged = is-logged script l h.0.kept h.1;
            lock_is = h.0.lock_is;
            quiet = h.0.quiet;
          }) 1 news
          (all-from-both (IsWorkedAt script lock) (λ n (l : LoggedNode). l.fault ≢ Some faults.Memory) 1 news at
          (all-from-all (λ (l : LoggedNode). l.fault ≢ Some faults.Memory) 1 news whole));
      grid =
          subst (λ (xs : List (List Wire)). IsGrid (node_count script) xs)
          (sym (map-unchanged wires_of olds news same (λ k d lt. (worked k d lt).same.wires))) opened.grid;
    }

-- what was lent of a vector, put back into it
pub put-back : {A : Type 0} (size : ℕ) (olds news : List A) → size ≡ length olds → length news ≡ length olds
    → take size (news ++ drop (length news) olds) ≡ news
put-back size olds news whole same =
    ap (λ n. take n (news ++ drop (length news) olds)) (whole ∙ sym same) ∙ take-front news (drop (length news) olds)
  where
    take-front : {A : Type 0} (xs ys : List A) → take (length xs) (xs ++ ys) ≡ xs
    take-front [] ys = refl
    take-front {A} (x ∷ xs) ys = ap (λ (zs : List A). x ∷ zs) (take-front xs ys)

-- the nodes were lent, and none of them is spent now
pub threads-done : (script : Script) (lock : Lock) (size : ℕ) (olds lent news now : List LoggedNode)
    → AreOpened script lock olds → size ≡ length olds → lent ≡ olds → length news ≡ length lent
    → ((k : ℕ) (d : LoggedNode) → k < length lent → IsWorked script (slice_index_or lent k d) (slice_index_or news k d))
    → now ≡ take size (news ++ drop (length news) olds)
    → AllByRecursion (λ (l : LoggedNode). l.fault ≢ Some faults.Memory) now
    → AreDone script lock (take size (news ++ drop (length news) olds))
threads-done script lock size olds lent news now opened whole is same worked is_now none =
    let back : take size (news ++ drop (length news) olds) ≡ news =
    put-back size olds news whole (same ∙ ap length is)
    in subst (λ (xs : List LoggedNode). AreDone script lock xs) (sym back)
    (are-done script lock lent news (subst (λ (xs : List LoggedNode). AreOpened script lock xs) (sym is) opened) same
    worked
    (subst (λ (xs : List LoggedNode). AllByRecursion (λ (l : LoggedNode). l.fault ≢ Some faults.Memory) xs)
    (is_now ∙ back) none))

-- ---- what is put together

numbered-from : (script : Script) (lock : Lock) (first : ℕ) (nodes : List LoggedNode)
    → AllFrom (IsDone script lock) first nodes → AreNumbered lock.id first (map (λ (l : LoggedNode). l.seat) nodes)
numbered-from script lock first [] done = tt
numbered-from script lock first (l ∷ nodes) done =
    let own : IsDone script lock first l = done.0
    in (own.lock_is, own.logged.seat ∙ own.number_is, numbered-from script lock (first + 1) nodes done.1)

-- the seats of the nodes are all of the lock's
pub seats-are-all : (script : Script) (lock : Lock) (nodes : List LoggedNode) (seats : List Seated)
    → AreDone script lock nodes → seats ≡ map (λ (l : LoggedNode). l.seat) nodes → AreAll lock seats
seats-are-all script lock nodes seats h is =
    subst (λ (xs : List Seated). AreAll lock xs) (sym is) (
      numbered-from script lock 1 nodes h.done,
      length-map (λ (l : LoggedNode). l.seat) nodes ∙ h.count ∙ sym h.seats,
    )

wires-of-ends : (nodes : List LoggedNode) → map (map wire_of) (map ends_of nodes) ≡ wires_of_all nodes
wires-of-ends [] = refl
wires-of-ends (l ∷ nodes) =
    ap (λ (ws : List Wire). ws ∷ map (map wire_of) (map ends_of nodes)) (map-map end_of wire_of l.lines)
    ∙ ap (λ (xs : List (List Wire)). wires_of l ∷ xs) (wires-of-ends nodes)

-- the rows of the nodes have both ends of each stream
pub rows-are-twins : (script : Script) (lock : Lock) (nodes : List LoggedNode) (rows : List (List End))
    → AreDone script lock nodes → rows ≡ map ends_of nodes → AreTwinRows (length rows) rows
rows-are-twins script lock nodes rows h is =
    let count : length rows ≡ node_count script = ap length is ∙ length-map ends_of nodes ∙ h.count
    in subst (λ n. AreTwinRows n rows) (sym count)
    (subst (λ (xs : List (List End)). AreTwinRows (node_count script) xs) (sym is)
    (mesh-back wire_of (λ (w : Wire). w.other) AreTwins (node_count script) (map ends_of nodes)
    (subst (λ (xs : List (List Wire)). IsGrid (node_count script) xs) (sym (wires-of-ends nodes)) h.grid)))

-- ---- all of it

ends-of-lines : (nodes : List LoggedNode)
    → map ends_of nodes ≡ map (map end_of) (map (λ (l : LoggedNode). l.lines) nodes)
ends-of-lines nodes = sym (map-map (λ (l : LoggedNode). l.lines) (map end_of) nodes)

lines-are-settled : (script : Script) (lock : Lock) (nodes : List LoggedNode) (rows : List (List End))
    → AreDone script lock nodes → rows ≡ map ends_of nodes → AreSettledRows (length rows) rows
    → AllSettled (map (λ (l : LoggedNode). l.lines) nodes)
lines-are-settled script lock nodes rows h is settled =
    mesh-settled (length rows) (map (λ (l : LoggedNode). l.lines) nodes)
    (mesh-back end_of end_other AreSettled (length rows) (map (λ (l : LoggedNode). l.lines) nodes)
    (subst (λ (xs : List (List End)). AreSettledRows (length rows) xs) (is ∙ ends-of-lines nodes) settled))

has-all-from : (journal : List Stamped) (first : ℕ) (nodes : List LoggedNode)
    → HasAllOf journal (map (λ (l : LoggedNode). l.seat) nodes)
    → AllFrom (λ n (l : LoggedNode).
    (of_seat l.seat.number journal ≡ l.seat.own) × BeginsWith journal l.seat.seen) first
    nodes
has-all-from journal first [] all = tt
has-all-from journal first (l ∷ nodes) all = ((all.0, all.1), has-all-from journal (first + 1) nodes all.2)

-- what is known of each node of the script in the list
record IsJoinedNode (script : Script) (lock : Lock) (journal : List Stamped) (nodes : List LoggedNode) (n : ℕ)
    (l : LoggedNode) : Type 0 where
  pub done : IsDone script lock n l
  pub settled : AllFrom (λ q (other : LoggedNode). n ≢ q → SettledBetween n l.lines q other.lines) 1 nodes
  pub own : of_seat l.seat.number journal ≡ l.seat.own
  pub seen : BeginsWith journal l.seat.seen

joined-nodes : (script : Script) (lock : Lock) (journal : List Stamped) (nodes : List LoggedNode)
    → AreDone script lock nodes → AllSettled (map (λ (l : LoggedNode). l.lines) nodes)
    → HasAllOf journal (map (λ (l : LoggedNode). l.seat) nodes)
    → AllFrom (IsJoinedNode script lock journal nodes) 1 nodes
joined-nodes script lock journal nodes h settled whole =
    let Own : ℕ → LoggedNode → Type 0 =
    λ n l. (of_seat l.seat.number journal ≡ l.seat.own) × BeginsWith journal l.seat.seen
    in let With : ℕ → LoggedNode → Type 0 = λ n l. SettledWith n l.lines (map (λ (m : LoggedNode). m.lines) nodes)
    in all-from-step (λ n l. IsDone script lock n l × (With n l × Own n l)) (IsJoinedNode script lock journal nodes)
    (λ n l g. record {
      done = g.0;
      settled =
          all-from-unmap (λ q (row : List Line). n ≢ q → SettledBetween n l.lines q row) (λ (m : LoggedNode). m.lines) 1
          nodes g.1.0;
      own = g.1.1.0;
      seen = g.1.1.1;
    }) 1 nodes
    (all-from-both (IsDone script lock) (λ n l. With n l × Own n l) 1 nodes h.done
    (all-from-both With Own 1 nodes
    (all-from-unmap (λ n (row : List Line). SettledWith n row (map (λ (m : LoggedNode). m.lines) nodes))
    (λ (m : LoggedNode). m.lines) 1 nodes settled)
    (has-all-from journal 1 nodes whole)))

threaded-from : (script : Script) (lock : Lock) (journal : List Stamped) (nodes : List LoggedNode) (d : LoggedNode)
    (partings : List Parting) → AreDone script lock nodes → AllFrom (IsJoinedNode script lock journal nodes) 1 nodes
    → IsInOrder journal → IsOfSeats lock.seats journal → partings ≡ map parting_of nodes
    → IsThreaded script journal partings
threaded-from script lock journal nodes d partings h all order seats partings_are =
    let node : ℕ → LoggedNode = λ p. slice_index_or nodes (p - 1) d
    in let at : (p : ℕ) → IsNode script p → IsJoinedNode script lock journal nodes p (node p) =
    λ p is. at-number (IsJoinedNode script lock journal nodes) nodes d p all is.low
    (subst (λ n. p ≤ n) (sym h.count) is.high)
    in let joined : AreJoined script node journal =
    record {
      number = λ p is. (at p is).done.number_is;
      logged = λ p is. (at p is).done.logged;
      settled = λ p q is is_q apart.
          let s : SettledBetween p (node p).lines q (node q).lines =
          at-number (λ k (other : LoggedNode). p ≢ k → SettledBetween p (node p).lines k other.lines) nodes d q
          (at p is).settled is_q.low (subst (λ n. q ≤ n) (sym h.count) is_q.high) apart
          in (
            s.0,
            ap (λ k. sent_on (node p).lines k) (at q is_q).done.number_is
                ∙ s.1
                ∙ ap (λ k. taken_on (node q).lines k ++ s.0) (sym (at p is).done.number_is),
          );
      own = λ p is.
          ap (λ k. of_seat k journal) (sym ((at p is).done.logged.seat ∙ (at p is).done.number_is)) ∙ (at p is).own;
      seen = λ p is. (at p is).seen;
      order = order;
      seats = subst (λ n. IsOfSeats n journal) h.seats seats;
    }
    in record {
      nodes = node;
      joined = joined;
      partings_are =
          partings_are
          ∙ sym (by-numbers parting_of nodes d)
          ∙ ap (λ n. map (λ p. parting_of (node p)) (numbers 1 n)) h.count;
      quiet = λ p is. (at p is).done.quiet;
    }

-- what the threads left is what is asked of nodes whose threads have ended
pub threads-are-joined : (script : Script) (lock : Lock) (nodes : List LoggedNode) (seats : List Seated)
    (rows : List (List End)) (partings : List Parting) (journal : List Stamped) → 1 ≤ node_count script
    → AreDone script lock nodes → seats ≡ map (λ (l : LoggedNode). l.seat) nodes → rows ≡ map ends_of nodes
    → partings ≡ map parting_of nodes → AreSettledRows (length rows) rows → Closes lock seats journal
    → IsThreaded script journal partings
threads-are-joined script lock [] seats rows partings journal some h seats_are rows_are partings_are settled closes =
    let none : 0 ≡ node_count script = h.count in absurd (let f : ⊥ = omega (arith, none, some) in f)
threads-are-joined script lock (l ∷ nodes) seats rows partings journal some h seats_are rows_are partings_are settled
    closes =
    threaded-from script lock journal (l ∷ nodes) l partings h
    (joined-nodes script lock journal (l ∷ nodes) h (lines-are-settled script lock (l ∷ nodes) rows h rows_are settled)
    (subst (λ (xs : List Seated). HasAllOf journal xs) seats_are closes.whole))
    closes.order closes.others partings_are
