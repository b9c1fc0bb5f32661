-- The first call in hand, where it was taken from a frame whose withdrawal stays behind it: all holds of withdrawals in
-- the world before the event. Or all holds of them with the call in hand.
use Rattle.std.proofs.Common.{◌≡◌, ◌≢◌, ℕ, ◌≤◌, true, false, cond, List, [], ◌∷◌, ◌++◌, filter, refl, ap, sym, ◌∙◌, append-nil}
use Rattle.std.specs.List.{AllByRecursion}
use Rattle.std.proofs.lemmas.Bool.{ne_eqb}
use Rattle.pico_base.specs.declared.numbers.Name.{Name}
use Rattle.pico_base.specs.declared.reply.Entry.{Entry}
use Rattle.pico_base.specs.declared.script.Script.{Script}
use Rattle.rpc_frame.specs.declared.asked.Asked.{Asked}
use Rattle.rpc_frame.specs.declared.frame.Frame.{Frame}
use Rattle.node_model.specs.declared.held.Held.{Held}
use Rattle.node_model.specs.declared.held.Held.TheVariants.{Request}
use Rattle.world_model.specs.Node.{Node}
use Rattle.world_model.specs.Step.{Step}
use Rattle.world_model.specs.World.{World, node_count, world_after}
use Rattle.world_laws.specs.Places.{Beside, CallPlace, Waits}
use Rattle.world_laws.specs.Sights.{is_born_in, node_of}
use Rattle.world_laws.specs.Callers.{CallHolds, call_sight, is_about, is_item_about}
use Rattle.world_laws.specs.Cancels.{CancelIf, Owing, Wakes, cancel_sight, is_cancel_of, is_held_cancel_of, owing_of}
use Rattle.world_laws.specs.Wholes.{HasWhole}
use Rattle.world_laws.specs.Invariant.{HoldsOwing}
use Rattle.world_laws.proofs.Cancels.{is_item_of}
use Rattle.world_laws.proofs.Changes.{Changes, IsListMap, only-stayed, stayed, taken}
use Rattle.world_laws.proofs.Pairs.{goes_on, lands}
use Rattle.route_laws.proofs.Entered.{whole-of}
use Rattle.route_laws.proofs.Owed.{HoldsAt}
use Rattle.route_laws.proofs.hand.HandMoves.{IsCallOf, IsFirst, first, no-held-cancel}

-- The call is elsewhere there.
pub record WasBefore (script : Script) (v : World) (p : ℕ) (s : Step) (asked : Asked) (rest : List Held) (b : Beside)
    : Type 0 where
  pub world : World
  pub hand : List Held
  pub call : ℕ → CallPlace
  pub takes : List (ℕ × Frame)
  pub cancels : (y : ℕ) → 1 ≤ y → y ≤ node_count script
      → CancelIf y (owing_of p s.strikes) (cancel_sight world hand (record b { call = call }) y)
  pub nodes : (y : ℕ) → node_of (world_after v p s) y ≡ node_of world y
  pub others : (y : ℕ) → y ≢ asked.caller → b.call y ≡ call y
  pub items : (y : ℕ) → y ≢ asked.caller → filter (is_item_of y) rest ≡ filter (is_item_of y) hand
  pub cancel_items : (y : ℕ) → filter (is_held_cancel_of y) rest ≡ filter (is_held_cancel_of y) hand
  pub of_no_other : (y : ℕ) → y ≢ asked.caller → AllByRecursion (λ f. is_about y p f.0 f.1 ≡ false) takes
  pub no_cancel : (y : ℕ) → AllByRecursion (λ f. is_cancel_of y f.1 ≡ false) takes
  -- what changes from the middle on has changed from there
  pub changes : (w' : World) (n : Node) (sends : List (ℕ × Frame)) (entries : List Entry)
      → Changes script p (world_after v p s) w' n [] sends entries → Changes script p world w' n takes sends entries

-- All holds with the call in hand, but for withdrawals, of which it holds before.
pub record IsInHandAt (script : Script) (v : World) (p : ℕ) (s : Step) (asked : Asked) (rest : List Held) (b : Beside)
    : Type 0 where
  pub owed : Owing
  pub holds : HoldsOwing script (world_after v p s) (Request asked ∷ rest) owed b
  pub whole : HasWhole (world_after v p s) b
  pub before : WasBefore script v p s asked rest b

-- From where the call is before it may come to wait at the name that it is on.
pub record GoesToWait (script : Script) (v : World) (p : ℕ) (s : Step) (asked : Asked) (rest : List Held) (b : Beside)
    (before : WasBefore script v p s asked rest b) : Type 0 where
  pub caller : CallHolds script asked.caller (is_born_in before.world)
      (call_sight before.world before.hand (record b { call = before.call }) asked.caller)
  pub goes : (name : Name) → goes_on (before.call asked.caller) (Waits name) ≡ true
  pub lands_not : (name : Name) → lands (before.call asked.caller) (Waits name) ≡ false

pub record MayWaitAt (script : Script) (v : World) (p : ℕ) (s : Step) (asked : Asked) (rest : List Held) (b : Beside)
    : Type 0 where
  pub in_hand : IsInHandAt script v p s asked rest b
  pub goes : GoesToWait script v p s asked rest b in_hand.before

-- So it is where it holds of withdrawals too.
abbrev pub in-hand-at : (script : Script) (v : World) (p : ℕ) (s : Step) (asked : Asked) (rest : List Held) (b : Beside)
    → HoldsAt script v p s (Request asked ∷ rest) b → IsCallOf script asked
    → IsInHandAt script v p s asked rest b
in-hand-at script v p s asked rest b holds asks =
    record {
      owed = owing_of p s.strikes;
      holds = holds;
      whole = whole-of p s.strikes w b holds.whole;
      before = record {
        world = w;
        hand = Request asked ∷ rest;
        call = b.call;
        takes = [];
        cancels = λ y low high. holds.cancels y low high;
        nodes = λ y. refl;
        others = λ y d. refl;
        items = λ y d. sym (ap (λ k. cond k (Request asked ∷ filter (is_item_of y) rest) (filter (is_item_of y) rest))
            (ne_eqb asked.caller y (λ e. d (sym e))));
        cancel_items = λ y. sym (ap (λ k. cond k (Request asked ∷ filter (is_held_cancel_of y) rest)
            (filter (is_held_cancel_of y) rest)) (no-held-cancel asked y asks.is_call));
        of_no_other = λ y d. tt;
        no_cancel = λ y. tt;
        changes = λ w' n sends entries c. c;
      };
    }
  where
    w : World
    w = world_after v p s

-- where all holds with the call in hand, it was in hand before, and may come to wait from there
pub may-wait-at : (script : Script) (v : World) (p : ℕ) (s : Step) (asked : Asked) (rest : List Held) (b : Beside)
    → HoldsAt script v p s (Request asked ∷ rest) b → IsCallOf script asked
    → MayWaitAt script v p s asked rest b
may-wait-at script v p s asked rest b holds asks =
    record {
      in_hand = in-hand-at script v p s asked rest b holds asks;
      goes = record {
        caller = holds.calls asked.caller asks.low asks.high;
        goes = λ name. ap (λ place. goes_on place (Waits name)) is-first.place_is;
        lands_not = λ name. ap (λ place. lands place (Waits name)) is-first.place_is;
      };
    }
  where
    w : World
    w = world_after v p s

    is-first : IsFirst script asked.caller (is_born_in w) (call_sight w (Request asked ∷ rest) b asked.caller) asked
        (filter (is_item_about asked.caller) rest)
    is-first = first script w asked rest b holds asks

-- ---- changes one after the other

all-of-them : IsListMap (λ (fs : List Frame). fs)
all-of-them = record { of_none = refl; of_both = λ xs ys. refl }

-- what is taken first, and then the rest
pub changes-on : (script : Script) (p : ℕ) (u w w' : World) (m n : Node) (takes sends : List (ℕ × Frame))
    (entries : List Entry) → Changes script p u w m takes [] [] → Changes script p w w' n [] sends entries
    → Changes script p u w' n takes sends entries
changes-on script p u w w' m n takes sends entries c d =
    record {
      shape = d.shape;
      here = d.here;
      others = λ x other. d.others x other ∙ c.others x other;
      journal = d.journal ∙ ap (λ j. j ++ entries) (c.journal ∙ append-nil u.journal);
      left = d.left;
      before = λ t q. c.before t q ∙ ap (λ fs. taken p takes t q ++ fs) (sym (left-same t q));
      after = d.after;
    }
  where
    left-same : (t q : ℕ) → d.left t q ≡ c.left t q
    left-same t q =
        stayed script p w w' n [] sends entries d (λ t q fs. fs) (λ t q. all-of-them) tt t q
        ∙ only-stayed script p u w m takes [] [] c (λ t q fs. fs) (λ t q. all-of-them) tt t q

-- While some are still to be woken nothing is said of the kernel in which callers wait, and of withdrawals.
pub wakes-of : (script : Script) (w : World) (hand : List Held) {owes : Owing} (b : Beside)
    → HoldsOwing script w hand owes b → HoldsOwing script w hand Wakes b
wakes-of script w hand b h =
    record {
      shape = h.shape;
      history = h.history;
      whole = tt;
      leading = h.leading;
      pids = h.pids;
      nodes = h.nodes;
      frames_fit = h.frames_fit;
      names = h.names;
      calls = h.calls;
      cancels = λ p low high. tt;
      ways = h.ways;
      parcels = h.parcels;
      kinds = h.kinds;
      few = h.few;
      keys = h.keys;
      families = h.families;
    }
