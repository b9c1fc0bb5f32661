-- A node notes that a signal has interrupted its call, and the withdrawal is on its way: to the leader, or in the
-- leader's own hand.
use Rattle.std.proofs.Common.{Bool, List, Option, [], ap, false, filter, if◌then◌else◌, refl, subst, sym, true, ℕ, ◌&&◌, ◌++◌, ◌≡◌, ◌≢◌, ◌≤◌}
use Rattle.std.proofs.lemmas.Bool.{false≢true, ne_eqb}
use Rattle.std.specs.List.{AllByRecursion}
use Rattle.pico_base.specs.declared.call.Call.{Call}
use Rattle.pico_base.specs.declared.numbers.Name.{Name}
use Rattle.pico_base.specs.declared.script.Script.{Script}
use Rattle.rpc_frame.specs.declared.asked.Asked.{Asked}
use Rattle.rpc_frame.specs.declared.frame.Frame.{Frame}
use Rattle.node_model.specs.Caller.{note_cancel}
use Rattle.node_model.specs.Directory.{is_parcel_with, place_of}
use Rattle.node_model.specs.declared.held.Held.{Held}
use Rattle.world_model.specs.Node.{Leaving, Left, Living, Node, Over, Stage, Unborn}
use Rattle.world_model.specs.World.{World, node_count}
use Rattle.world_laws.proofs.CancelMoves.{CancelTravels}
use Rattle.world_laws.proofs.Changes.{Changes, IsListMap, frames_if, read-same}
use Rattle.world_laws.proofs.Following.{is-for-waiting, withdrawal}
use Rattle.world_laws.proofs.LeftAlone.{DirectoryLeaves, same-directory}
use Rattle.world_laws.proofs.Pairs.{is_for_waiting}
use Rattle.world_laws.proofs.Sends.{frame_if}
use Rattle.world_laws.proofs.Stays.{IsMore, name-stays}
use Rattle.world_laws.proofs.Wholes.{whole-left-alone}
use Rattle.world_laws.specs.Callers.{CallHolds, HasCall, HasCallOrNone, call_sight, is_at_work, only_if}
use Rattle.world_laws.specs.Cancels.{AStrike, CancelSight, Nothing, cancel_sight, has_reply, may_follow}
use Rattle.world_laws.specs.Families.{HoldsIn, NodeHolds}
use Rattle.world_laws.specs.Invariant.{HoldsOwing, MayBe}
use Rattle.world_laws.specs.Names.{NameHolds, name_sight}
use Rattle.world_laws.specs.Places.{Beside, CancelPlace, NoCancel, cancel_in}
use Rattle.world_laws.specs.Sights.{directory_of, is_born_in, node_of}
use Rattle.route_laws.proofs.cancels.Going.{HasGone}
use Rattle.route_laws.proofs.cancels.NameMoves.{CarriesCancels, DirectoryLeavesBut, name-passed-by}
use Rattle.route_laws.proofs.cancels.Struck.{IsStruckCall, struck-holds}
use Rattle.route_laws.proofs.cancels.Travels.{DirectoryStays, HoldsStill, NodeStays, OnlyCancel, owed-another, travel-born, travel-keeps}

-- the node with that note
abbrev pub noted_node : Node → Node
noted_node n = record n { caller = note_cancel n.caller }

-- a note is nothing to what holds of a node
pub node-noted : (script : Script) (pids : ℕ → ℕ) (born : ℕ → Bool) (p : ℕ) (n : Node) → is_at_work n.stage ≡ true
    → NodeHolds script pids born p n → NodeHolds script pids born p (noted_node n)
node-noted script pids born p n work h =
    record {
      number = h.number;
      holds = by n.stage work h.holds;
      birth = h.birth;
      first = h.first;
      others = h.others;
      rows = h.rows;
      owners = h.owners;
    }
  where
    by : (stage : Stage) → is_at_work stage ≡ true → HoldsIn p n stage → HoldsIn p (noted_node n) stage
    by Unborn work h = absurd (false≢true work)
    by Living work h = h
    by Leaving work h = h
    by Left work h = h
    by Over work h = absurd (false≢true work)

-- a frame that is sent is in one stream
pub sent-once : (k : Frame) (t s : Bool) → frames_if s (frame_if t k ++ []) ≡ only_if (t && s) k
sent-once k true true = refl
sent-once k true false = refl
sent-once k false true = refl
sent-once k false false = refl

-- where none is sent none is
pub nothing-sent-by : (t : Bool) → frames_if t [] ≡ []
nothing-sent-by true = refl
nothing-sent-by false = refl

-- streams themselves
pub itself-is-list-map : IsListMap (λ fs. fs)
itself-is-list-map = record { of_none = refl; of_both = λ xs ys. refl }

module _ (script : Script) (w w' : World) (hand hand' : List Held) (b : Beside) (p : ℕ) (low : 1 ≤ p)
    (high : p ≤ node_count script) (holds : HoldsOwing script w hand (AStrike p) b) (call : Call) (name : Name)
    (s : IsStruckCall p (cancel_sight w hand b p) call name) (sends : List (ℕ × Frame))
    (c : Changes script p w w' (noted_node (node_of w p)) [] sends []) (to : CancelPlace)
    (t : CancelTravels p NoCancel to (withdrawal (cancel_sight w hand b p) call) w w' hand hand')
    (place : is_for_waiting (b.call p) ≡ true → may_follow to (b.call p) ≡ true) (to_some : to ≢ NoCancel)
    (only : OnlyCancel (withdrawal (cancel_sight w hand b p) call) sends)
    (may_be : AllByRecursion (λ s. MayBe script (is_born_in w) s.0 p s.1) sends)
    (to_others : AllByRecursion (λ s. s.0 ≢ p) sends) (carries : CarriesCancels p [] sends)
    (parcels : (m : Name) → filter (is_parcel_with m) hand' ≡ filter (is_parcel_with m) hand) where
  abbrev x : CancelSight
  x = cancel_sight w hand b p

  abbrev n : Node
  n = noted_node (node_of w p)

  abbrev cancel : Asked
  cancel = withdrawal x call

  has : HasCall script p (is_born_in w) (call_sight w hand b p) call
  has =
      let h : CallHolds script p (is_born_in w) (call_sight w hand b p) = holds.calls p low high
      in subst (λ (o : Option Call). HasCallOrNone script p (is_born_in w) (call_sight w hand b p) o) s.under_way h.call

  waiting : has_reply (b.call p) ≡ false → is_for_waiting (b.call p) ≡ true
  waiting unanswered = is-for-waiting x.pid call (b.call p) s.waits has.home unanswered

  directory-is : directory_of w' ≡ directory_of w
  directory-is = read-same script p w w' n [] sends [] c (λ (m : Node). m.leader.directory) refl 1

  read : {T : Type 0} (f : Node → T) → f n ≡ f (node_of w p) → (y : ℕ) → f (node_of w' y) ≡ f (node_of w y)
  read f same y = read-same script p w w' n [] sends [] c f same y

  gone : HasGone p Nothing w' hand' b
  gone =
      struck-holds p w w' hand hand' b call name to s t (holds.cancels p low high)
      (read (λ (m : Node). m.number) refl p) (read (λ (m : Node). m.pid) refl p)
      (ap (λ (m : Node). m.caller) c.here) place waiting to_some

  abbrev after : Beside
  after = record b { cancel = cancel_in b.cancel p gone.cancel }

  node-stays : NodeStays script w b p p n
  node-stays =
      record {
        number = refl;
        pid = refl;
        stage = refl;
        leases = refl;
        noted = true;
        caller = refl;
        unnoted = λ other. absurd (other refl);
        queue_keys = refl;
        set_keys = refl;
        holds = node-noted script b.pids (is_born_in w) p (node_of w p) has.at_work (holds.nodes p low high);
      }

  directory-stays : DirectoryStays (directory_of w) (directory_of w')
  directory-stays =
      subst (λ d. DirectoryStays (directory_of w) d) (sym directory-is)
      (record {
        partings_are = λ y. refl;
        known_are = λ m. refl;
        ranges_are = λ kind. refl;
        leads = holds.leading;
      })

  other-cancels : (y : ℕ) → y ≢ p → cancel_in b.cancel p gone.cancel y ≡ b.cancel y
  other-cancels y d = ap (λ u. if u then gone.cancel else b.cancel y) (ne_eqb p y (λ e. d (sym e)))

  born-still : IsMore (is_born_in w) (is_born_in w')
  born-still =
      travel-born script w w' hand hand' (AStrike p) Nothing b (cancel_in b.cancel p gone.cancel) p n [] sends cancel p
      s.number_is NoCancel to low high holds c t refl node-stays directory-stays tt only may_be to_others
      other-cancels (λ y d same h. owed-another p y _ _ d refl same h)
      (λ l h. whole-left-alone w w' b after Nothing l h)

  leaves-but : (m : Name) → DirectoryLeavesBut (directory_of w) (directory_of w') m
  leaves-but m =
      let l : DirectoryLeaves (directory_of w) (directory_of w') m =
      same-directory (directory_of w) (directory_of w') directory-is m
      in record { maker_is = l.maker_is; stays_is = l.stays_is; kept_is = l.kept_is }

  names : (m : Name) → NameHolds script b.pids (is_born_in w') m (name_sight script w' hand' after m)
  names m =
      name-stays script b.pids (is_born_in w) (is_born_in w') m (name_sight script w hand b m)
      (name_sight script w' hand' after m) born-still
      (name-passed-by script p w w' n [] sends [] c carries hand hand' b after m (place_of (directory_of w) m)
      (ap (λ d. place_of d m) directory-is) (leaves-but m) refl refl refl refl refl refl refl (parcels m))
      (holds.names m)

  -- No strike is owed any more.
  pub interrupts : HoldsStill script w' hand' Nothing b
  interrupts =
      record {
        cancels = cancel_in b.cancel p gone.cancel;
        holds = travel-keeps script w w' hand hand' (AStrike p) Nothing b (cancel_in b.cancel p gone.cancel) p n []
            sends cancel p
            s.number_is NoCancel to low high holds c t refl node-stays directory-stays tt only may_be to_others
            other-cancels (λ y d same h. owed-another p y _ _ d refl same h)
            (λ l h. whole-left-alone w w' b after Nothing l h) low high gone.holds names;
      }
