-- A node carries out the first call of its hand, which changes nothing but its caller's place: all holds once it has
-- its reply.
use Rattle.std.proofs.Common.{◌≡◌, ◌≢◌, ℕ, ◌≤◌, Bool, true, false, if◌then◌else◌, List, [], ◌∷◌, ◌++◌, filter, nat_eq, Some, None, refl, ap, sym, subst, ◌∙◌, inl, inr}
use Rattle.std.proofs.lemmas.Bool.{cases_eq, eq-eqb, eqb-true, false≢true, ne_eqb}
use Rattle.pico_base.specs.declared.numbers.Name.TheVariants.{Proc}
use Rattle.pico_base.specs.declared.reply.Entry.{Entry}
use Rattle.pico_base.specs.declared.reply.Reply.{Reply}
use Rattle.pico_base.specs.declared.script.Script.{Script}
use Rattle.rpc_frame.specs.declared.asked.Asked.{Asked}
use Rattle.rpc_frame.specs.declared.frame.Frame.{Frame}
use Rattle.number_maps.specs.Maps.{get}
use Rattle.kernel_model.specs.Effect.{reply_alone}
use Rattle.kernel_model.specs.Fitting.{Place, Places, places_after}
use Rattle.waiting_model.specs.Linear.{line_of}
use Rattle.node_model.specs.declared.held.Held.{Held}
use Rattle.node_model.specs.declared.held.Held.TheVariants.{Request}
use Rattle.node_model.specs.Caller.{Caller, caller_place}
use Rattle.node_model.specs.Directory.{held_for, is_known, stays}
use Rattle.node_model.specs.Entries.{entry_by}
use Rattle.world_model.specs.Node.{Node, Stage, Unborn, Living, Leaving, Left, Over, under_way_as}
use Rattle.world_model.specs.Step.{Step, carry_out, enter}
use Rattle.world_model.specs.World.{World, node_count, world_after}
use Rattle.entry_laws.specs.Entering.{HasHistory}
use Rattle.entry_laws.proofs.Fresh.{LeavesAll}
use Rattle.entry_laws.proofs.History.{history-goes-on, moved-is, place-moves}
use Rattle.entry_laws.proofs.Keys.{keys-kept}
use Rattle.entry_laws.proofs.Numbers.{used-kept}
use Rattle.world_laws.specs.Places.{Beside, CallPlace, NoCancel, call_in}
use Rattle.world_laws.specs.Sights.{node_of, directory_of, is_born_in, is_born_stage}
use Rattle.world_laws.specs.Callers.{call_sight, is_item_about}
use Rattle.world_laws.specs.Cancels.{CancelIf, CancelSight, Owing, Wakes, cancel_sight, is_held_cancel_of, owing_of}
use Rattle.world_laws.specs.Wholes.{HasWhole}
use Rattle.world_laws.proofs.Cancels.{IsLater, SameCancel, cancel-left-alone, is_item_of}
use Rattle.world_laws.proofs.Following.{SameOld}
use Rattle.world_laws.proofs.LeftAlone.{SameCaller}
use Rattle.rule_laws.proofs.Withdrawals.{old-still}
use Rattle.waiting_model.specs.Calls.{waits_at}
use Rattle.route_laws.proofs.Entered.{whole-if}
use Rattle.world_laws.specs.Families.{HoldsIn, NodeHolds}
use Rattle.world_laws.specs.Invariant.{HoldsOwing}
use Rattle.world_laws.specs.Ranges.{KeysHold}
use Rattle.world_laws.proofs.Changes.{Changes, read-same}
use Rattle.world_laws.proofs.Middles.{changes-further}
use Rattle.rule_laws.proofs.CallMoves.{same-but-call}
use Rattle.rule_laws.proofs.own.Entries.{EntryLeaves}
use Rattle.rule_laws.proofs.own.Moved.{IsCarriedOut, IsMoved, moved-alone}
use Rattle.rule_laws.proofs.own.Refused.{unchanged-leaves}
use Rattle.route_laws.proofs.Owed.{HoldsAt}
use Rattle.route_laws.proofs.hand.Answering.{IsPlainCall, due-in-hand, has-history, may-make-in-hand, place-in-hand}
use Rattle.route_laws.proofs.hand.HandMoves.{IsCallOf, IsFirst, first, held-for-none}
use Rattle.route_laws.proofs.served.AllTurns.{carried-out}
use Rattle.route_laws.proofs.served.OneReply.{after_one, has-whole, old-here, one-cancel, others-owed}
use Rattle.route_laws.proofs.served.Before.{IsInHandAt, WasBefore, wakes-of}
use Rattle.route_laws.proofs.served.Carried.{catches-up}
use Rattle.route_laws.proofs.served.Replies.{IsAtWork, IsReplied, Then, beside_then, caller_by, name-not-changed, no-cancel-sends, of-no-other, place_by, replied-all, sends_by}
use Rattle.route_laws.proofs.served.Steps.{replied_step, reply-is}
use Rattle.route_laws.proofs.served.Turns.{node-at, replied-node, sends-grow, sends-to-nodes}
use Rattle.route_laws.proofs.served.Whole.{WholeStep}

-- ---- the step

-- the entries are those of the step before, and a strike is owed as before
pub entries-kept : (script : Script) (own : Bool) (m : Step) (asked : Asked) (reply : Reply)
    → (let t : Step = replied_step script own m asked reply in t.entries) ≡ m.entries
entries-kept script true m asked reply = refl
entries-kept script false m asked reply = refl

-- the reply itself strikes nobody
pub strikes-kept : (script : Script) (own : Bool) (m : Step) (asked : Asked) (reply : Reply)
    → (let t : Step = replied_step script own m asked reply in t.strikes) ≡ m.strikes
strikes-kept script true m asked reply = refl
strikes-kept script false m asked reply = refl

-- ---- the node

-- it holds what it did, with another caller
holds-with : (p : ℕ) (n : Node) (k : Caller) (stage : Stage) → is_born_stage stage ≡ true → HoldsIn p n stage
    → HoldsIn p (record n { caller = k }) stage
holds-with p n k Unborn born h = absurd (false≢true born)
holds-with p n k Living born h = h
holds-with p n k Leaving born h = h
holds-with p n k Left born h = h
holds-with p n k Over born h = h

pub node-with-caller : (script : Script) (pids : ℕ → ℕ) (born : ℕ → Bool) (p : ℕ) (n : Node) (k : Caller)
    → is_born_stage n.stage ≡ true → NodeHolds script pids born p n
    → NodeHolds script pids born p (record n { caller = k })
node-with-caller script pids born p n k is_born h =
    record {
      number = h.number;
      holds = holds-with p n k n.stage is_born h.holds;
      birth = h.birth;
      first = h.first;
      others = h.others;
      rows = h.rows;
      owners = h.owners;
    }

-- ---- the reply

module _ (script : Script) (v : World) (p : ℕ) (s : Step) (asked : Asked) (rest : List Held) (b : Beside)
    (in_hand : IsInHandAt script v p s asked rest b) (at : IsAtWork script (world_after v p s) p)
    (asks : IsCallOf script asked) (reply : Reply) where
  abbrev w : World
  w = world_after v p s

  abbrev hand : List Held
  hand = Request asked ∷ rest

  abbrev holds : HoldsOwing script w hand in_hand.owed b
  holds = in_hand.holds

  waking : HoldsOwing script w hand Wakes b
  waking = wakes-of script w hand b holds

  abbrev own : Bool
  own = nat_eq asked.caller p

  abbrev owes : Owing
  owes = owing_of p s.strikes

  abbrev entered : Step
  entered = enter s asked.pid asked.call reply

  -- the step with the reply
  abbrev pub one_step : Step
  one_step = replied_step script own entered asked reply

  pub here-now : node_of w p ≡ s.node
  here-now = node-at script v p s holds.shape at.low at.high

  node-was : NodeHolds script b.pids (is_born_in w) p (node_of w p)
  node-was = holds.nodes p at.low at.high

  pub number-now : s.node.number ≡ p
  number-now = sym (ap (λ (m : Node). m.number) here-now) ∙ node-was.number

  -- the node's own call is under way there
  pub own-under-way : own ≡ true → under_way_as s.node asked.ticket ≡ Some asked.call
  own-under-way mine =
      let f : IsFirst script asked.caller (is_born_in w) (call_sight w hand b asked.caller) asked _ =
      first script w asked rest b holds asks
      in let same : node_of w asked.caller ≡ s.node = ap (node_of w) (eqb-true asked.caller p mine) ∙ here-now
      in let ticket : asked.ticket ≡ s.node.caller.ticket =
      ap (λ (z : Asked). z.ticket) f.asked_is ∙ ap (λ (m : Node). m.caller.ticket) same
      in ap (λ t. elim t [ true ↦ s.node.caller.under_way | false ↦ None ])
      (eq-eqb asked.ticket s.node.caller.ticket ticket)
      ∙ sym (ap (λ (m : Node). m.caller.under_way) same)
      ∙ f.is ∙ ap (λ (z : Asked). Some z.call) (sym f.asked_is)

  -- So is the call carried out.
  pub one-carried : carry_out script s asked reply ≡ one_step
  one-carried =
      reply-is script entered asked reply own (ap (nat_eq asked.caller) number-now) own-under-way
      (λ mine. number-now ∙ sym (eqb-true asked.caller p mine))

  abbrev n : Node
  n = node_of w p

  abbrev entry : Entry
  entry = entry_by s.node.number asked.pid asked.call reply

  -- the node then
  abbrev pub one_node : Node
  one_node = record n { caller = caller_by script own asked reply n.caller }

  pub one-changes : Changes script p w (world_after v p one_step) one_node [] (sends_by own asked reply) (entry ∷ [])
  one-changes =
      subst (λ (m : Node). Changes script p w (world_after v p one_step) m [] (sends_by own asked reply) (entry ∷ []))
      (replied-node script own entered asked reply entered.node.deeds entered.node.leader
      ∙ ap (λ (m : Node). record m { caller = caller_by script own asked reply m.caller }) (sym here-now))
      (changes-further script v p s one_step (sends_by own asked reply) (entry ∷ []) holds.shape at.low at.high
      (sends-to-nodes script own asked reply asks)
      (record {
        sends_are = sends-grow script own entered asked reply one_step refl;
        entries_are = entries-kept script own entered asked reply;
      }))

  module _ (l : LeavesAll b.kernel asked.pid asked.call reply) (plain : IsPlainCall asked.call)
      (step : WholeStep b.whole asked.pid asked.call (reply_alone reply) l.next b.body) where
    abbrev w' : World
    w' = world_after v p one_step

    abbrev sends : List (ℕ × Frame)
    sends = sends_by own asked reply

    abbrev was : Place
    was = caller_place script asked.caller (node_of w asked.caller).caller

    abbrev places-now : Places
    places-now = places_after script b.places entry was

    abbrev then_is : Then
    then_is =
        after_one script w asked rest p s.strikes b holds in_hand.whole asks s.node.number reply l.next b.deed b.body
        step

    -- what stands beside the world then
    abbrev pub one_beside : Beside
    one_beside = beside_then b (call_in b.call asked.caller (place_by own p reply)) then_is

    there : get b.places asked.pid ≡ Some was
    there = place-in-hand script w asked rest b holds asks

    leaves : EntryLeaves b.kernel b.places asked.pid l.next places-now
    leaves =
        unchanged-leaves b.kernel asked.pid asked.call reply (may-make-in-hand script w asked rest b holds asks) l
        plain.no_fork plain.no_exit plain.not_killed script b.places s.node.number asked.caller
        (node_of w asked.caller).caller there (due-in-hand script w asked rest b holds asks)

    history : HasHistory script (b.lines ++ line_of s.node.number asked.pid asked.call reply ∷ []) l.next places-now
    history =
        history-goes-on script b.lines b.kernel b.places s.node.number asked.pid asked.call reply was l.next
        (has-history script w asked rest b holds asks) there (due-in-hand script w asked rest b holds asks)
        l.enters.makes

    same-directory-now : directory_of w' ≡ directory_of w
    same-directory-now =
        read-same script p w w' one_node [] sends (entry ∷ []) one-changes (λ (m : Node). m.leader.directory) refl 1

    keys-now : KeysHold (node_of w' 1).leader l.next
    keys-now =
        subst (λ leader. KeysHold leader l.next)
        (sym (read-same script p w w' one_node [] sends (entry ∷ []) one-changes (λ (m : Node). m.leader) refl 1))
        (keys-kept (node_of w 1).leader.queue_keys (node_of w 1).leader.set_keys b.kernel l.next l.keys holds.keys)

    replied : IsReplied script w w' asked rest Wakes Wakes b then_is p one_node own reply
    replied =
        record {
          leaves = leaves;
          history = history;
          place_is = place-moves script b.places s.node.number asked.pid asked.call reply was plain.no_fork
              ∙ ap Some (moved-is was asked.call (Some reply) plain.not_killed);
          number = refl;
          pid = refl;
          stage = refl;
          leases = refl;
          caller = refl;
          node = node-with-caller script b.pids (is_born_in w) p n (caller_by script own asked reply n.caller) at.born
              node-was;
          keys = keys-now;
          directory = same-but-call asked.caller (directory_of w) (directory_of w') same-directory-now holds.leading;
          none_held = λ m. ap (λ d. filter (is_item_about asked.caller) (held_for d m)) same-directory-now
              ∙ held-for-none script w asked rest b holds asks m;
          awaited = λ q to e. l.bodies (Proc q);
          deeds = λ q. refl;
          waiters = λ m. refl;
          makers_stay = λ m maker unused used. absurd (false≢true (sym unused
              ∙ sym (used-kept b.kernel asked.pid asked.call reply l.next l.enters m) ∙ used));
          whole = λ h. tt;
          cancel_of_others = λ y d. ap (λ t. if t then NoCancel else b.cancel y)
              (ne_eqb asked.caller y (λ e. d (sym e)));
          owed_of_others = λ y d same h. tt;
        }

    all-waking : HoldsOwing script w' rest Wakes one_beside
    all-waking =
        replied-all script w asked rest b waking asks p at own refl reply Wakes then_is one_node (entry ∷ []) w' replied
        one-changes same-directory-now l.enters.used (λ m. refl) tt
        (λ m. name-not-changed script w asked rest b waking asks p at own refl reply Wakes then_is one_node (entry ∷ [])
        w' replied one-changes same-directory-now l.enters.used (λ q. refl) m (l.bodies m) refl refl)

    whole-then : HasWhole w' one_beside
    whole-then =
        has-whole script w asked rest p s.strikes b holds in_hand.whole asks s.node.number reply l.next b.deed b.body
        step
        own refl one_node sends w' one-changes refl leaves history refl

    -- ---- withdrawals

    -- the world before
    before : WasBefore script v p s asked rest b
    before = in_hand.before

    abbrev u : World
    u = before.world

    abbrev beside-before : Beside
    beside-before = record b { call = before.call }

    abbrev x : ℕ → CancelSight
    x y = cancel_sight u before.hand beside-before y

    abbrev x' : ℕ → CancelSight
    x' y = cancel_sight w' rest one_beside y

    changes-since : Changes script p u w' one_node before.takes sends (entry ∷ [])
    changes-since = before.changes w' one_node sends (entry ∷ []) one-changes

    directory-since : directory_of w' ≡ directory_of u
    directory-since = same-directory-now ∙ ap (λ (m : Node). m.leader.directory) (before.nodes 1)

    old-since : SameOld (x asked.caller) (x' asked.caller)
    old-since =
        let here : SameOld (cancel_sight w hand b asked.caller) (x' asked.caller) =
        old-here script w asked rest p s.strikes b holds in_hand.whole asks s.node.number reply l.next b.deed b.body
        step
        own refl one_node sends w' one-changes refl leaves history refl refl
        (λ m. ap (λ d. filter (is_held_cancel_of asked.caller) (held_for d m)) same-directory-now)
        in old-still script p u w' one_node before.takes sends (entry ∷ []) changes-since before.hand rest beside-before
        one_beside asked.caller (ap (λ (m : Node). m.pid) (sym (before.nodes asked.caller)) ∙ here.of.pid)
        (subst (λ (m : Node). IsLater m.caller (node_of w' asked.caller).caller) (before.nodes asked.caller)
        here.of.later)
        (λ m. ap (λ d. filter (is_held_cancel_of asked.caller) (held_for d m)) directory-since)
        (before.cancel_items asked.caller) (before.no_cancel asked.caller)
        (no-cancel-sends own asked reply asked.caller)

    same-node : (t : Bool) → nat_eq asked.caller p ≡ t → p ≢ asked.caller
        → SameCaller n (record n { caller = caller_by script t asked reply n.caller })
    same-node true is d = absurd (d (sym (eqb-true asked.caller p is)))
    same-node false is d = record { number = refl; pid = refl; stage = refl; caller = refl; leases = refl }

    call-still : (y : ℕ) → y ≢ asked.caller → one_beside.call y ≡ before.call y
    call-still y d =
        ap (λ t. if t then place_by own p reply else b.call y) (ne_eqb asked.caller y (λ e. d (sym e)))
        ∙ before.others y d

    others-same : (y : ℕ) → y ≢ asked.caller → SameCancel (x y) (x' y)
    others-same y d =
        cancel-left-alone script p u w' one_node before.takes sends (entry ∷ []) changes-since before.hand rest
        beside-before one_beside y
        (record {
          own = λ e. subst (λ (m : Node). SameCaller m one_node) (before.nodes p)
              (same-node own refl (λ same. d (e ∙ same)));
          call_is = call-still y d;
          cancel_is = ap (λ t. if t then NoCancel else b.cancel y) (ne_eqb asked.caller y (λ e. d (sym e)));
          held_is = λ m. ap (λ e. filter (is_item_of y) (held_for e m)) directory-since;
          hand_is = before.items y d;
          nowhere = λ call is may l. record {
            node = l.node;
            is = call-still y d ∙ l.is;
            leaves = ap (λ e. stays e l.node) directory-since ∙ l.leaves;
            unknown = ap (λ e. is_known e (waits_at (node_of u y).pid call)) directory-since ∙ l.unknown;
          };
        }) (before.of_no_other y d) (of-no-other own asked reply p y d) (before.no_cancel y)
        (no-cancel-sends own asked reply y)

    cancels-then : (y : ℕ) → 1 ≤ y → y ≤ node_count script → CancelIf y owes (x' y)
    cancels-then y low high =
        elim (cases_eq y asked.caller) [
          | inl e ↦
              subst (λ q. CancelIf q owes (x' q)) (sym e)
              (one-cancel script w asked rest p s.strikes b holds in_hand.whole asks s.node.number reply l.next b.deed
              b.body step own refl one_node sends w' one-changes refl leaves history refl (x asked.caller) old-since
              (before.cancels asked.caller asks.low asks.high))
          | inr d ↦
              others-owed script w asked rest p s.strikes b holds in_hand.whole asks s.node.number reply l.next b.deed
              b.body step own refl one_node sends w' one-changes refl leaves history refl (λ q. l.bodies (Proc q)) y d
              (x y) refl (others-same y d) (before.cancels y low high)
        ]

    all-hold : HoldsOwing script w' rest owes one_beside
    all-hold =
        catches-up script w' rest owes one_beside one_beside.whole one_beside.cancel all-waking
        (whole-if p s.strikes w' one_beside whole-then) cancels-then

    -- All holds then,
    pub one-keeps : HoldsAt script v p one_step rest one_beside
    one-keeps =
        subst (λ t. HoldsOwing script w' rest (owing_of p t) one_beside)
        (sym (strikes-kept script own entered asked reply)) all-hold

    -- and the call is carried out.
    pub one-moved : (P : CallPlace → Type 0) → P (place_by own p reply) → IsMoved b.call one_beside.call asked.caller P
    one-moved P fits =
        moved-alone b.call one_beside.call asked.caller P (place_by own p reply) (λ y. refl) fits

-- a call that has its reply is carried out
pub is-carried : (p y : ℕ) (reply : Reply) → IsCarriedOut (place_by (nat_eq y p) p reply)
is-carried p y reply = carried-out p y (place_by (nat_eq y p) p reply) (record { reply = reply; is = refl })
