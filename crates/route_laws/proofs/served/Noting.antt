-- A node serves the first call of its hand, on a name that it holds, and notes who read: the whole of the rule. All
-- holds then, but for a strike that the step owes.
use Rattle.std.proofs.Common.{◌≡◌, ◌≢◌, ℕ, Bool, true, false, List, ◌∷◌, Contains, Some, None, refl, ap, sym, subst, ◌∙◌}
use Rattle.std.proofs.lemmas.Bool.{false≢true}
use Rattle.pico_base.specs.declared.call.Call.{Call}
use Rattle.pico_base.specs.declared.call.Call.TheVariants as calls
use Rattle.pico_base.specs.declared.call.Home.{Home}
use Rattle.pico_base.specs.declared.call.Home.TheVariants as homes
use Rattle.pico_base.specs.declared.numbers.Name.{Name}
use Rattle.pico_base.specs.declared.script.Script.{Script}
use Rattle.pico_base.specs.Home.{home_of}
use Rattle.rpc_frame.specs.declared.asked.Asked.{Asked}
use Rattle.node_model.specs.declared.held.Held.{Held}
use Rattle.node_model.specs.declared.held.Held.TheVariants.{Request}
use Rattle.node_model.specs.Directory.{At, place_of}
use Rattle.node_model.specs.Kinds.{is_object}
use Rattle.world_model.specs.Node.{Node}
use Rattle.world_model.specs.Serving.{note_reads, serve_asked}
use Rattle.world_model.specs.Step.{Step}
use Rattle.world_model.specs.World.{World, world_after}
use Rattle.entry_laws.specs.Entering.{removed_queue, removed_set}
use Rattle.entry_laws.proofs.Names.{same-name}
use Rattle.world_laws.specs.Places.{Beside, CallPlace, InTable, Parked, Waits}
use Rattle.world_laws.specs.Sights.{directory_of, is_born_in, node_of}
use Rattle.world_laws.specs.Callers.{is_on}
use Rattle.world_laws.specs.Families.{NodeHolds}
use Rattle.rule_laws.proofs.own.Moved.{AreStill, IsCarriedOut, IsMoved, IsStillOrWoken, is_answered, is_over, is_still, is_woken, waited}
use Rattle.route_laws.specs.Ready.{HasFewNodes}
use Rattle.route_laws.specs.Watching.{AreWatchesOf, WatchesAsOwner}
use Rattle.route_laws.proofs.Owed.{HoldsAt, IsServedPlace}
use Rattle.route_laws.proofs.hand.HandMoves.{IsCallOf}
use Rattle.route_laws.proofs.hand.Noted.{HoldsAfter, reads-noted-keep}
use Rattle.route_laws.proofs.sent.Suggested.{reads-suggested-keep}
use Rattle.route_laws.proofs.served.Before.{MayWaitAt, may-wait-at}
use Rattle.route_laws.proofs.served.Carried.{HasServed, carried_step, readers-here, serve-rule, serves, serves-kept}
use Rattle.route_laws.proofs.served.Readers.{IsReader}
use Rattle.route_laws.proofs.served.Replies.{IsAtWork}
use Rattle.route_laws.proofs.served.Turns.{node-at}

-- ---- calls on a name that stays

-- a call on a name that stays where it is
abbrev pub is_at_home : Home → Bool
is_at_home (homes.At name) = true
is_at_home home = false

-- such a call removes no queue
pub keeps-queue : (pid : ℕ) (call : Call) → is_at_home (home_of pid call) ≡ true → removed_queue call ≡ None
keeps-queue pid (calls.MsgRmid id) h = absurd (false≢true h)
keeps-queue pid call h = refl

-- and no set
pub keeps-set : (pid : ℕ) (call : Call) → is_at_home (home_of pid call) ≡ true → removed_set call ≡ None
keeps-set pid (calls.SemRmid id) h = absurd (false≢true h)
keeps-set pid call h = refl

-- ---- where calls are, in two steps

waits-not-carried : (name : Name) (place : CallPlace) → place ≡ Waits name → IsCarriedOut place → ⊥
waits-not-carried name place waits (is_over over) = cc
waits-not-carried name place waits (is_answered sender reply is) = cc

parked-not-carried : (place : CallPlace) → place ≡ Parked → IsCarriedOut place → ⊥
parked-not-carried place parked (is_over over) = cc
parked-not-carried place parked (is_answered sender reply is) = cc

-- a call that is where it was or woken, twice
pub still-twice : (first middle last : CallPlace) → IsStillOrWoken first middle → IsStillOrWoken middle last
    → IsStillOrWoken first last
still-twice first midway last (is_still e) later = subst (λ place. IsStillOrWoken place last) (sym e) later
still-twice first midway last (is_woken name e over) (is_still f) = is_woken name e (subst IsCarriedOut f over)
still-twice first midway last (is_woken name e over) (is_woken other f again) =
    absurd (waits-not-carried other midway f over)
still-twice first midway last (is_woken name e over) (waited f g) = absurd (parked-not-carried midway f over)
still-twice first midway last (waited e f) (is_still g) = waited e (sym g ∙ f)
still-twice first midway last (waited e f) (is_woken other g again) =
    absurd (waits-not-carried other midway g (is_over f))
still-twice first midway last (waited e f) (waited g h) = absurd (parked-not-carried midway g (is_over f))

-- A call that has moved stays so while others are woken.
pub moved-then : (before middle after : ℕ → CallPlace) (c : ℕ) (P : CallPlace → Type 0) → IsMoved before middle c P
    → AreStill middle after → IsMoved before after c P
moved-then before middle after c P m still =
    record {
      place = m.place;
      calls = λ y. still-twice _ (middle y) (after y) (m.calls y) (still y);
      fits = m.fits;
    }

-- ---- the rule

-- The rule has a step, after which all holds, with the call carried out, or waiting where it was served.
pub record ServesAndNotes (script : Script) (v : World) (p : ℕ) (s : Step) (asked : Asked) (rest : List Held)
    (b : Beside) (name : Name) : Type 0 where
  pub next : Step
  pub is : serve_asked script s name asked ≡ Some next
  pub beside : Beside
  pub holds : HoldsAt script v p next rest beside
  pub moved : IsMoved b.call beside.call asked.caller (IsServedPlace s.node asked)

module _ (script : Script) (v : World) (p : ℕ) (s : Step) (asked : Asked) (rest : List Held) (b : Beside)
    (may_wait : MayWaitAt script v p s asked rest b) (at : IsAtWork script (world_after v p s) p)
    (asks : IsCallOf script asked) (name : Name) (home : home_of asked.pid asked.call ≡ homes.At name)
    (here : b.deed name ≡ InTable p) (few : HasFewNodes script) where
  abbrev w : World
  w = world_after v p s

  on : is_on name (home_of asked.pid asked.call) ≡ true
  on = ap (is_on name) home ∙ same-name name

  abbrev done : Step
  done = carried_step script v p s asked rest b may_wait at asks name on here

  has-served : HasServed script v p s done asked rest b
  has-served =
      serves-kept script v p s asked rest b may_wait at asks name on here
      (keeps-queue asked.pid asked.call (ap is_at_home home)) (keeps-set asked.pid asked.call (ap is_at_home home))

  abbrev readers : List ℕ
  readers = (serves script v p s asked rest b may_wait at asks name on here).served.readers

  reads : (r : ℕ) → Contains readers r
      → (is_object name ≡ true) × (is_born_in (world_after v p done) r ≡ true)
  reads r there =
      let it : IsReader script w name r = readers-here script v p s asked rest b may_wait at asks name on here r there
      in (it.object, has-served.born r ∙ it.born)

  rule : serve_asked script s name asked ≡ Some (note_reads done name readers)
  rule = serve-rule script v p s asked rest b may_wait at asks name on here few

  -- At a node other than the leader.
  pub serves-behind : p ≢ 1 → ServesAndNotes script v p s asked rest b name
  serves-behind other =
      record {
        next = note_reads done name readers;
        is = rule;
        beside = has-served.beside;
        holds = reads-suggested-keep script v p done rest has-served.beside has-served.holds at.low at.high other
            (has-served.born p ∙ at.born) name readers reads;
        moved = has-served.moved;
      }

-- So it does where all holds with the call in hand.
pub serves-elsewhere : (script : Script) (v : World) (p : ℕ) (s : Step) (asked : Asked) (rest : List Held) (b : Beside)
    → HoldsAt script v p s (Request asked ∷ rest) b → IsAtWork script (world_after v p s) p
    → IsCallOf script asked → (name : Name) → home_of asked.pid asked.call ≡ homes.At name
    → b.deed name ≡ InTable p → HasFewNodes script → p ≢ 1 → ServesAndNotes script v p s asked rest b name
serves-elsewhere script v p s asked rest b holds at asks name home here few other =
    serves-behind script v p s asked rest b (may-wait-at script v p s asked rest b holds asks) at asks name home here
    few
    other

-- At the leader, whose watches are its own.
pub serves-at-leader : (script : Script) (v : World) (s : Step) (asked : Asked) (rest : List Held) (b : Beside)
    → HoldsAt script v 1 s (Request asked ∷ rest) b → IsAtWork script (world_after v 1 s) 1
    → IsCallOf script asked → (name : Name) → home_of asked.pid asked.call ≡ homes.At name
    → b.deed name ≡ InTable 1 → HasFewNodes script → WatchesAsOwner s.node
    → place_of (directory_of (world_after v 1 s)) name ≡ Some (At 1) → ServesAndNotes script v 1 s asked rest b name
serves-at-leader script v s asked rest b holds at asks name home here few watches place =
    record {
      next = note_reads t name read_by;
      is = rule script v 1 s asked rest b may_wait at asks name home here few;
      beside = noted.beside;
      holds = noted.holds;
      moved = moved-then b.call (k.beside).call (noted.beside).call asked.caller (IsServedPlace s.node asked) k.moved
          noted.calls;
    }
  where
    may_wait : MayWaitAt script v 1 s asked rest b
    may_wait = may-wait-at script v 1 s asked rest b holds asks

    t : Step
    t = done script v 1 s asked rest b may_wait at asks name home here few

    k : HasServed script v 1 s t asked rest b
    k = has-served script v 1 s asked rest b may_wait at asks name home here few

    read_by : List ℕ
    read_by = readers script v 1 s asked rest b may_wait at asks name home here few

    number : s.node.number ≡ 1
    number =
        let old : NodeHolds script b.pids (is_born_in (world_after v 1 s)) 1 (node_of (world_after v 1 s) 1) =
        holds.nodes 1 at.low at.high
        in sym (ap (λ (n : Node). n.number) (node-at script v 1 s holds.shape at.low at.high)) ∙ old.number

    watched : WatchesAsOwner t.node
    watched =
        subst (λ ws. AreWatchesOf t.node.number ws) (sym k.watches)
        (subst (λ owner. AreWatchesOf owner s.node.watches) (number ∙ sym k.number) watches)

    noted : HoldsAfter script v (note_reads t name read_by) rest (k.beside).call
    noted =
        reads-noted-keep script v t rest k.beside k.holds at.high name read_by
        (reads script v 1 s asked rest b may_wait at asks name home here few) watched
        (ap (λ d. place_of d name) k.directory ∙ place)
