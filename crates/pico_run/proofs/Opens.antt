-- The nodes of a script before their first turns.
use Rattle.std.proofs.Common.{◌≡◌, ℕ, suc, ◌+◌, ◌≤◌, List, [], ◌∷◌, ◌++◌, length, map, refl, ap, sym, subst, ◌∙◌, arith, append_assoc, inr}
use Rattle.std.specs.List.{AllByRecursion}
use Rattle.std.proofs.lemmas.List.{append-nil, length-append}
use Rattle.pico_base.specs.declared.script.Script.{Script}
use Rattle.journal_core.specs.Seated.{Lock, Seated, AreNew, AreNumbered}
use Rattle.world_model.specs.World.{node_count}
use Rattle.log_model.specs.Views.{Line, LoggedNode}
use Rattle.log_model.specs.Logged.{IsOfScript, others_of}
use Rattle.logged_laws.specs.Laws.{IsNew, IsNewLine, NewNodesAreLogged}
use Rattle.node_lines.specs.declared.end.End.{End}
use Rattle.node_log.specs.Ends.{line_of}
use Rattle.pico_run.specs.declared.grid.Row.{Row}
use Rattle.pico_run.specs.Numbered.{AllFrom}
use Rattle.pico_run.specs.Grid.{AreTwins, IsGrid, IsNewEnd, IsNewRow, Wire, line_wire, rows_of, wire_of, wires_of_all}
use Rattle.pico_run.specs.Opened.{AreOpened, AreReady, IsReady, opened_node}
use Rattle.pico_run.proofs.Lists.{map-map}
use Rattle.pico_run.proofs.Meshes.{LeadsToOthers, mesh-others}
use Rattle.pico_run.proofs.Growing.{rows-count}

-- ---- all nodes

abbrev pub opened_all : List Row → List Seated → List LoggedNode
opened_all [] seats = []
opened_all (row ∷ rows) [] = []
opened_all (row ∷ rows) (seat ∷ seats) = opened_node row.ends seat ∷ opened_all rows seats

opened-length : (rows : List Row) (seats : List Seated) → length rows ≡ length seats
    → length (opened_all rows seats) ≡ length seats
opened-length [] [] e = refl
opened-length [] (seat ∷ seats) e = e
opened-length (row ∷ rows) [] e = absurd (let f : ⊥ = omega (arith, e) in f)
opened-length (row ∷ rows) (seat ∷ seats) e = ap suc (opened-length rows seats (omega (arith, e)))

opened-wires : (rows : List Row) (seats : List Seated) → length rows ≡ length seats
    → wires_of_all (opened_all rows seats) ≡ rows_of rows
opened-wires [] seats e = refl
opened-wires (row ∷ rows) [] e = absurd (let f : ⊥ = omega (arith, e) in f)
opened-wires (row ∷ rows) (seat ∷ seats) e =
    ap (λ (ws : List Wire). ws ∷ wires_of_all (opened_all rows seats)) (map-map line_of line_wire row.ends)
    ∙ ap (λ (xs : List (List Wire)). map wire_of row.ends ∷ xs) (opened-wires rows seats (omega (arith, e)))

-- ---- each node

new-lines : (ends : List End) → AllByRecursion IsNewEnd ends → AllByRecursion IsNewLine (map line_of ends)
new-lines [] new = tt
new-lines (end ∷ ends) new =
    let own : IsNewEnd end = new.0
    in (record { sent = own.sent; taken = own.taken; left = refl }, new-lines ends new.1)

opened-of-script : (script : Script) (ends : List End) (seat : Seated) (k : ℕ) → seat.number ≡ k → 1 ≤ k
    → k ≤ node_count script
    → LeadsToOthers (λ (w : Wire). w.other) (node_count script) k (map wire_of ends)
    → IsOfScript script (opened_node ends seat)
opened-of-script script ends seat k number low high leads =
    record {
      low = subst (λ n. 1 ≤ n) (sym number) low;
      high = subst (λ n. n ≤ node_count script) (sym number) high;
      others =
          map-map line_of (λ (line : Line). line.other) ends
          ∙ sym (map-map wire_of (λ (w : Wire). w.other) ends)
          ∙ leads
          ∙ ap (λ n. others_of script n) (sym number);
      forker = λ q e. absurd (let f : ⊥ = cc in f);
    }

opened-is-ready : (script : Script) (lock : Lock) (ends : List End) (seat : Seated) (k : ℕ) → NewNodesAreLogged
    → seat.lock ≡ lock.id → seat.number ≡ k → 1 ≤ k → k ≤ node_count script
    → LeadsToOthers (λ (w : Wire). w.other) (node_count script) k (map wire_of ends)
    → AllByRecursion IsNewEnd ends → seat.own ≡ [] → IsReady script lock k (opened_node ends seat)
opened-is-ready script lock ends seat k logged of_lock number low high leads new own =
    let of_script : IsOfScript script (opened_node ends seat) =
    opened-of-script script ends seat k number low high leads
    in let is_new : IsNew (opened_node ends seat) =
    record {
      node = refl;
      clock = refl;
      log = refl;
      lines = new-lines ends new;
      own = own;
      seat = refl;
      fault = refl;
    }
    in record {
      number_is = number;
      can_turn = record {
        of_script = of_script;
        lock_is = of_lock;
        kept = inr (logged script (opened_node ends seat) is_new of_script);
      };
    }

all-ready : (script : Script) (lock : Lock) (first : ℕ) (rows : List Row) (seats : List Seated) → NewNodesAreLogged
    → 1 ≤ first → first + length rows ≤ node_count script + 1
    → AllFrom (LeadsToOthers (λ (w : Wire). w.other) (node_count script)) first (rows_of rows)
    → AllByRecursion IsNewRow rows → AreNumbered lock.id first seats → AreNew seats
    → AreReady script lock first (opened_all rows seats)
all-ready script lock first [] seats logged low high leads new numbered own = tt
all-ready script lock first (row ∷ rows) [] logged low high leads new numbered own = tt
all-ready script lock first (row ∷ rows) (seat ∷ seats) logged low high leads new numbered own = (
  opened-is-ready script lock row.ends seat first logged numbered.0 numbered.1 low (omega (arith, high)) leads.0
      new.0 own.0,
  all-ready script lock (first + 1) rows seats logged (omega arith) (omega
      (arith, high)) leads.1 new.1 numbered.2 own.2,
)

-- ---- as they are made one after the other

pub record IsOpening (script : Script) (lock : Lock) (nodes : List LoggedNode) (left_rows : List Row)
    (left_seats : List Seated) : Type 0 where
  pub rows : List Row
  pub seats : List Seated
  pub lock_seats : lock.seats ≡ node_count script
  pub grid : IsGrid (node_count script) (rows_of rows)
  pub new : AllByRecursion IsNewRow rows
  pub numbered : AreNumbered lock.id 1 seats
  pub own : AreNew seats
  pub seats_count : length seats ≡ node_count script
  pub so_far : nodes ++ opened_all left_rows left_seats ≡ opened_all rows seats
  pub left_new : AllByRecursion IsNewRow left_rows
  pub left_numbered : AreNumbered lock.id (length nodes + 1) left_seats
  pub left_count : length left_rows ≡ length left_seats
  pub count : length nodes + length left_seats ≡ node_count script

-- no node is opened yet
pub opening-start : (script : Script) (lock : Lock) (nodes : List LoggedNode) (rows left_rows : List Row)
    (seats left_seats : List Seated) → nodes ≡ [] → left_rows ≡ rows → left_seats ≡ seats
    → lock.seats ≡ node_count script → IsGrid (node_count script) (rows_of rows) → AllByRecursion IsNewRow rows
    → AreNumbered lock.id 1 seats → length seats ≡ node_count script → AreNew seats
    → IsOpening script lock nodes left_rows left_seats
opening-start script lock nodes rows left_rows seats left_seats none same_rows same_seats lock_seats grid new numbered
    count own =
    let start : IsOpening script lock [] rows seats =
    record {
      rows = rows;
      seats = seats;
      lock_seats = lock_seats;
      grid = grid;
      new = new;
      numbered = numbered;
      own = own;
      seats_count = count;
      so_far = refl;
      left_new = new;
      left_numbered = numbered;
      left_count = rows-count (node_count script) rows grid ∙ sym count;
      count = (let e : 0 + length seats ≡ node_count script = omega (arith, count) in e);
    }
    in subst (λ (xs : List LoggedNode). IsOpening script lock xs left_rows left_seats) (sym none)
    (subst (λ (xs : List Row). IsOpening script lock [] xs left_seats) (sym same_rows)
    (subst (λ (xs : List Seated). IsOpening script lock [] rows xs) (sym same_seats) start))

-- what is known of the next node
pub record IsNextNode (script : Script) (nodes : List LoggedNode) (row : Row) (seat : Seated) : Type 0 where
  pub number : seat.number ≡ length nodes + 1
  pub high : length nodes + 1 ≤ node_count script
  pub new : IsNewRow row

pub next-row-is-there : (script : Script) (lock : Lock) (nodes : List LoggedNode) (left_rows : List Row)
    (left_seats seats : List Seated) (seat : Seated) → IsOpening script lock nodes left_rows left_seats
    → left_seats ≡ seat ∷ seats → left_rows ≡ [] → ⊥
next-row-is-there script lock nodes left_rows left_seats seats seat h is none =
    let same : length left_rows ≡ length left_seats = h.left_count
    in let more : length left_seats ≡ suc (length seats) = ap length is
    in let few : length left_rows ≡ 0 = ap length none
    in omega (arith, same, more, few)

pub next-node : (script : Script) (lock : Lock) (nodes : List LoggedNode) (left_rows rows : List Row)
    (left_seats seats : List Seated) (row : Row) (seat : Seated) → IsOpening script lock nodes left_rows left_seats
    → left_seats ≡ seat ∷ seats → left_rows ≡ row ∷ rows → IsNextNode script nodes row seat
next-node script lock nodes left_rows rows left_seats seats row seat h is is_row =
    let more : length left_seats ≡ suc (length seats) = ap length is
    in let count : length nodes + length left_seats ≡ node_count script = h.count
    in record {
      number = (subst (λ (xs : List Seated). AreNumbered lock.id (length nodes + 1) xs) is h.left_numbered).1;
      high = omega (arith, more, count);
      new = (subst (λ (xs : List Row). AllByRecursion IsNewRow xs) is_row h.left_new).0;
    }

-- one node more is opened
pub opening-more : (script : Script) (lock : Lock) (nodes more : List LoggedNode) (left_rows rows : List Row)
    (left_seats seats : List Seated) (row : Row) (seat : Seated) (l : LoggedNode)
    → IsOpening script lock nodes left_rows left_seats → left_seats ≡ seat ∷ seats → left_rows ≡ row ∷ rows
    → l ≡ opened_node row.ends seat → more ≡ nodes ++ l ∷ [] → IsOpening script lock more rows seats
opening-more script lock nodes more left_rows rows left_seats seats row seat l h is is_row made with_it =
    let fewer : length left_seats ≡ suc (length seats) = ap length is
    in let fewer_rows : length left_rows ≡ suc (length rows) = ap length is_row
    in let same : length left_rows ≡ length left_seats = h.left_count
    in let count : length nodes + length left_seats ≡ node_count script = h.count
    in let longer : length more ≡ length nodes + 1 = ap length with_it ∙ length-append nodes (l ∷ [])
    in record {
      rows = h.rows;
      seats = h.seats;
      lock_seats = h.lock_seats;
      grid = h.grid;
      new = h.new;
      numbered = h.numbered;
      own = h.own;
      seats_count = h.seats_count;
      so_far =
          ap (λ (xs : List LoggedNode). xs ++ opened_all rows seats) with_it
          ∙ append_assoc nodes (l ∷ []) (opened_all rows seats)
          ∙ ap (λ (x : LoggedNode). nodes ++ x ∷ opened_all rows seats) made
          ∙ sym (ap (λ (xs : List Row). nodes ++ opened_all xs (seat ∷ seats)) is_row)
          ∙ sym (ap (λ (xs : List Seated). nodes ++ opened_all left_rows xs) is)
          ∙ h.so_far;
      left_new = (subst (λ (xs : List Row). AllByRecursion IsNewRow xs) is_row h.left_new).1;
      left_numbered =
          subst (λ n. AreNumbered lock.id (n + 1) seats) (sym longer)
          (subst (λ (xs : List Seated). AreNumbered lock.id (length nodes + 1) xs) is h.left_numbered).2;
      left_count = omega (arith, fewer, fewer_rows, same);
      count = omega (arith, longer, fewer, count);
    }

-- all nodes are opened
pub opening-end : (script : Script) (lock : Lock) (nodes : List LoggedNode) (left_rows : List Row)
    (left_seats : List Seated) → NewNodesAreLogged → IsOpening script lock nodes left_rows left_seats
    → left_seats ≡ [] → AreOpened script lock nodes
opening-end script lock nodes left_rows left_seats logged h none =
    let few : length left_seats ≡ 0 = ap length none
    in let same : length left_rows ≡ length left_seats = h.left_count
    in let no_rows : left_rows ≡ [] = empty left_rows (omega (arith, same, few))
    in let all : nodes ≡ opened_all h.rows h.seats =
    sym (append-nil nodes)
    ∙ sym (ap (λ (xs : List Row). nodes ++ opened_all xs left_seats) no_rows)
    ∙ h.so_far
    in let rows_count : length h.rows ≡ node_count script = rows-count (node_count script) h.rows h.grid
    in let counts : length h.rows ≡ length h.seats = rows_count ∙ sym h.seats_count
    in let opened : AreOpened script lock (opened_all h.rows h.seats) =
    record {
      seats = h.lock_seats;
      count = opened-length h.rows h.seats counts ∙ h.seats_count;
      ready =
          all-ready script lock 1 h.rows h.seats logged (omega arith) (omega (arith, rows_count))
          (mesh-others (λ (w : Wire). w.other) AreTwins (node_count script) (rows_of h.rows) h.grid) h.new h.numbered
          h.own;
      grid =
          subst (λ (xs : List (List Wire)). IsGrid (node_count script) xs)
          (sym (opened-wires h.rows h.seats counts)) h.grid;
    }
    in subst (λ (xs : List LoggedNode). AreOpened script lock xs) (sym all) opened
  where
    empty : (xs : List Row) → length xs ≡ 0 → xs ≡ []
    empty [] e = refl
    empty (x ∷ xs) e = absurd (let f : ⊥ = omega (arith, e) in f)
