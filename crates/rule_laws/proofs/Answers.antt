-- A node takes the reply to its call.
use Rattle.std.proofs.Common.{◌≡◌, ◌≢◌, ◌⊎◌, ℕ, ◌≤◌, Bool, true, false, ◌&&◌, not, cond, if◌then◌else◌, List, [], ◌∷◌, ◌++◌, slice_get, filter, nat_eq, Contains, All, Option, Some, None, option_and_then, append-nil, refl, ap, sym, subst, ◌∙◌, inl, inr, arith}
use Rattle.std.proofs.lemmas.Bool.{cases_eq, eqb-true, eq-eqb, ne_eqb, false≢true}
use Rattle.std.proofs.lemmas.List.Elements.{All-cons, All-filter, All-take, All-weaker, All-contains, All-contains_itself}
use Rattle.pico_base.specs.declared.call.Call.{Call}
use Rattle.pico_base.specs.declared.call.Home.{Home}
use Rattle.pico_base.specs.declared.call.Home.TheVariants as homes
use Rattle.pico_base.specs.declared.numbers.Kind.{Kind}
use Rattle.pico_base.specs.declared.numbers.Name.{Name}
use Rattle.pico_base.specs.declared.reply.Reply.{Reply}
use Rattle.pico_base.specs.declared.script.Line.{Line}
use Rattle.pico_base.specs.declared.script.Script.{Script}
use Rattle.pico_base.specs.declared.script.Event.TheVariants as events
use Rattle.pico_base.specs.Home.{home_of}
use Rattle.rpc_frame.specs.declared.asked.Asked.{Asked}
use Rattle.rpc_frame.specs.declared.frame.Frame.{Frame}
use Rattle.rpc_frame.specs.declared.frame.Frame.TheVariants as frames
use Rattle.node_model.specs.declared.held.Held.TheVariants.{Request}
use Rattle.node_model.specs.Kinds.{for_kind, is_same_name}
use Rattle.node_model.specs.Directory.{Directory, held_for}
use Rattle.node_model.specs.Cache.{Cache, learn, forget, max_cached}
use Rattle.node_model.specs.Caller.{Caller, lines_of, answer_call}
use Rattle.node_model.specs.Serving.{waiting_as}
use Rattle.waiting_model.specs.Marks.{Alive}
use Rattle.world_model.specs.Node.{Node, Stage, Unborn, Living, Leaving, Left, Over, under_way_as}
use Rattle.world_model.specs.Step.{Step, step_to}
use Rattle.world_model.specs.Calls.{take_answer, answered_by, end_with_reply, with_learnt, is_for_others}
use Rattle.world_model.specs.World.{World, world_after}
use Rattle.world_laws.specs.Places.{CallPlace, Idle, AsksLease, HasLease, InAsk, InRequest, InNotOwner, SentByPlace, SentByRange, InBounce, IsHeld, IsInHand, Parked, Waits, InAnswer, Ends, Beside, call_in}
use Rattle.world_laws.specs.Sights.{node_of, directory_of, is_born_in, is_born_stage}
use Rattle.world_laws.specs.Callers.{CallSight, call_sight, CallHolds, HasCall, HasCallOrNone, IsFree, FreeIn, IsMade, IsJustThere, IsNowhere, asked_of, only_if, is_in_stream, frame_at, is_held_at, is_waiting_at, is_about, is_item_about, is_at_work, is_end_stage, is_end_place, may_be_in, IsSoFar, tries_made}
use Rattle.world_laws.specs.Cancels.{CancelHolds, Nothing, cancel_sight, has_reply, is_held_cancel_of}
use Rattle.world_laws.specs.Ranges.{has_lease}
use Rattle.world_laws.specs.Wholes.{HasMarks, under_way_at}
use Rattle.world_laws.specs.Families.{NodeHolds}
use Rattle.world_laws.specs.Invariant.{Holds}
use Rattle.world_laws.proofs.Cancels.{IsLater, over-later}
use Rattle.world_laws.proofs.Stays.{IsMore, SameCall, call-stays, name-stays, kind-stays}
use Rattle.world_laws.proofs.Replied.{cancel-over}
use Rattle.world_laws.proofs.Changes.{Changes, filter-is-list-map, only-stayed, read-same}
use Rattle.world_laws.proofs.LeftAlone.{LeavesName, same-directory, name-left-alone, kind-left-alone, few-still}
use Rattle.world_laws.proofs.Steps.{KeepsAs, Heads, world_without, take-steps, changes-by-take}
use Rattle.world_laws.proofs.Lines.{IsAnswered, answered, due-at-line}
use Rattle.world_laws.proofs.NameFacts.{has_left}
use Rattle.world_laws.proofs.Heads.{head-is, head-may-be, head-from-another, rest-stays, others-stay}
use Rattle.rule_laws.proofs.Nodes.{holds-stay}
use Rattle.world_laws.proofs.Wholes.{LeavesWhole, marks-of-others, whole-left-alone}
use Rattle.rule_laws.proofs.CallMoves.{IsCallMove, cancel-if-same, same-but-call, call-move-keeps, move-born, steps-still, ranges-still}
use Rattle.rule_laws.proofs.Withdrawals.{old-still, replied-uncancelled}

-- ---- what an Answer says of the call

abbrev is_answer : Frame → Bool
is_answer (frames.Answer ticket reply) = true
is_answer frame = false

pub record IsOnly (t : Bool) (f g : Frame) (fs : List Frame) : Type 0 where
  pub is_there : t ≡ true
  pub same : f ≡ g
  pub alone : fs ≡ []

first-same : (x y : Frame) (xs ys : List Frame) → x ∷ xs ≡ y ∷ ys → x ≡ y
first-same x y xs ys h = cc

rest-same : (x y : Frame) (xs ys : List Frame) → x ∷ xs ≡ y ∷ ys → xs ≡ ys
rest-same x y xs ys h = cc

not-none : (x : Frame) (xs : List Frame) → x ∷ xs ≡ [] → ⊥
not-none x xs h = cc

-- where a list is one frame or none, and a frame is at its head
pub only-one : (t : Bool) (f g : Frame) (fs : List Frame) → only_if t f ≡ g ∷ fs → IsOnly t f g fs
only-one true f g fs h =
    record { is_there = refl; same = first-same f g [] fs h; alone = sym (rest-same f g [] fs h) }
only-one false f g fs h = absurd (not-none g fs (sym h))

pub record IsAnswerOf (place : CallPlace) (asked : Asked) (q ticket : ℕ) (reply : Reply) (fs : List Frame) : Type 0
  where
    pub place_is : place ≡ InAnswer q reply
    pub ticket_is : ticket ≡ asked.ticket
    pub alone : fs ≡ []

answers-ticket : (a c : ℕ) (r s : Reply) → frames.Answer a r ≡ frames.Answer c s → a ≡ c
answers-ticket a c r s h = cc

answers-reply : (a c : ℕ) (r s : Reply) → frames.Answer a r ≡ frames.Answer c s → r ≡ s
answers-reply a c r s h = cc

and-second : (a b : Bool) → (a && b) ≡ true → b ≡ true
and-second true b h = h
and-second false b h = absurd (false≢true h)

no-answer : (t : Bool) (f : Frame) (ticket : ℕ) (reply : Reply) (fs : List Frame) → is_answer f ≡ false
    → only_if t f ≡ frames.Answer ticket reply ∷ fs → ⊥
no-answer t f ticket reply fs other h =
    let one : IsOnly t f (frames.Answer ticket reply) fs = only-one t f (frames.Answer ticket reply) fs h
    in false≢true (sym other ∙ ap is_answer one.same)

-- an Answer at the head of a stream says that the call is there
pub answer-of : (place : CallPlace) (asked : Asked) (p q ticket : ℕ) (reply : Reply) (fs : List Frame)
    → only_if (is_in_stream place p p q) (frame_at place asked) ≡ frames.Answer ticket reply ∷ fs
    → IsAnswerOf place asked q ticket reply fs
answer-of (InAnswer node answer) asked p q ticket reply fs h =
    let one : IsOnly (nat_eq p p && nat_eq q node) (frames.Answer asked.ticket answer) (frames.Answer ticket reply) fs =
    only-one (nat_eq p p && nat_eq q node) (frames.Answer asked.ticket answer) (frames.Answer ticket reply) fs h
    in let from : q ≡ node = eqb-true q node (and-second (nat_eq p p) (nat_eq q node) one.is_there)
    in record {
      place_is = ap (λ y. InAnswer y answer) (sym from)
          ∙ ap (InAnswer q) (answers-reply asked.ticket ticket answer reply one.same);
      ticket_is = sym (answers-ticket asked.ticket ticket answer reply one.same);
      alone = one.alone;
    }
answer-of Idle asked p q ticket reply fs h = absurd (not-none _ fs (sym h))
answer-of (IsHeld name) asked p q ticket reply fs h = absurd (not-none _ fs (sym h))
answer-of IsInHand asked p q ticket reply fs h = absurd (not-none _ fs (sym h))
answer-of Parked asked p q ticket reply fs h = absurd (not-none _ fs (sym h))
answer-of (Waits name) asked p q ticket reply fs h = absurd (not-none _ fs (sym h))
answer-of Ends asked p q ticket reply fs h = absurd (not-none _ fs (sym h))
answer-of (AsksLease kind) asked p q ticket reply fs h = absurd (no-answer _ _ ticket reply fs refl h)
answer-of (HasLease kind first) asked p q ticket reply fs h = absurd (no-answer _ _ ticket reply fs refl h)
answer-of InAsk asked p q ticket reply fs h = absurd (no-answer _ _ ticket reply fs refl h)
answer-of (InRequest node) asked p q ticket reply fs h = absurd (no-answer _ _ ticket reply fs refl h)
answer-of (InNotOwner node) asked p q ticket reply fs h = absurd (no-answer _ _ ticket reply fs refl h)
answer-of (SentByPlace node) asked p q ticket reply fs h = absurd (no-answer _ _ ticket reply fs refl h)
answer-of (SentByRange node) asked p q ticket reply fs h = absurd (no-answer _ _ ticket reply fs refl h)
answer-of (InBounce node) asked p q ticket reply fs h = absurd (no-answer _ _ ticket reply fs refl h)

-- ---- the call

-- it is ended, at the place to which the history has come
abbrev pub ended : CallSight → Caller → CallSight
ended x caller =
    record x {
      caller = caller;
      call = Idle;
      frames_about = λ to sender. [];
      held = λ name. [];
      hand = [];
      waiters = λ
          name. [];
    }

free-in : (script : Script) (p : ℕ) (x : CallSight) (stage : Stage) → is_at_work stage ≡ true
    → is_end_stage stage ≡ false → IsFree script p x → FreeIn script p x stage
free-in script p x Living work no_end free = free
free-in script p x Unborn work no_end free = absurd (false≢true work)
free-in script p x Over work no_end free = absurd (false≢true work)
free-in script p x Leaving work no_end free = absurd (false≢true (sym no_end))
free-in script p x Left work no_end free = absurd (false≢true (sym no_end))

working : (stage : Stage) → is_at_work stage ≡ true → is_end_stage stage ≡ false
    → (is_born_stage stage ≡ true) × (has_left stage ≡ false)
working Living work no_end = (refl, refl)
working Unborn work no_end = absurd (false≢true work)
working Over work no_end = absurd (false≢true work)
working Leaving work no_end = absurd (false≢true (sym no_end))
working Left work no_end = absurd (false≢true (sym no_end))

-- the call is over, and the process goes on
pub call-ended : (script : Script) (p : ℕ) (born : ℕ → Bool) (x : CallSight) (call : Call) (q : ℕ) (reply : Reply)
    (next : Caller) → CallHolds script p born x → HasCall script p born x call → x.call ≡ InAnswer q reply
    → IsAnswered script p x.caller call reply next → CallHolds script p born (ended x next)
call-ended script p born x call q reply next holds has place answer =
    record {
      call = subst (λ o. HasCallOrNone script p born (ended x next) o) (sym answer.free)
          (record {
            nowhere = record {
              in_streams = λ to sender. refl;
              held_for_names = λ name. refl;
              in_hand = refl;
              waiting = λ name. refl;
            };
            idle = refl;
            free = free-in script p (ended x next) x.stage has.at_work no-end
                (record {
                  there = made.there ∙ ap Some (sym answer.place_is);
                  alive = made.alive;
                  lives = made.lives;
                  tickets =
                      let few = has.tickets
                      in let more = answer.more_tries
                      in subst (λ t. t ≤ tries_made script p next) (sym answer.ticket_is) (omega (arith, few, more));
                  try_left = answer.left;
                });
          });
      ends = sym no-end;
    }
  where
    no-end : is_end_stage x.stage ≡ false
    no-end = sym holds.ends ∙ ap is_end_place place

    made : IsMade script p x call reply
    made = subst (λ y. IsSoFar script p x call y) place has.so_far

-- ---- the event

-- the cache learns who answered, where the call was on a name
abbrev learnt : Cache → ℕ → Home → Cache
learnt cache q (homes.At name) = learn cache name q
learnt cache q home = cache

with-learnt : (n : Node) (q : ℕ) (home : Home) → with_learnt n q home ≡ record n { cache = learnt n.cache q home }
with-learnt n q (homes.At name) = refl
with-learnt n q homes.Own = refl
with-learnt n q homes.Keys = refl
with-learnt n q (homes.Removal name) = refl
with-learnt n q homes.Parent = refl

learnt-all : (P : Name × ℕ → Type 0) (cache : Cache) (q : ℕ) (home : Home) → All P cache → ((name : Name) → P (name, q))
    → All P (learnt cache q home)
learnt-all P cache q (homes.At name) all new =
    All-take P max_cached ((name, q) ∷ forget cache name)
    (All-cons P (name, q) (forget cache name) (new name)
    (All-filter (λ e. not (is_same_name name e.0)) P cache all))
learnt-all P cache q homes.Own all new = all
learnt-all P cache q homes.Keys all new = all
learnt-all P cache q (homes.Removal name) all new = all
learnt-all P cache q homes.Parent all new = all

-- a call under way, and what holds of it
pub record Found (script : Script) (p : ℕ) (born : ℕ → Bool) (x : CallSight) : Type 0 where
  pub call : Call
  pub is : x.caller.under_way ≡ Some call
  pub has : HasCall script p born x call

-- a frame about a node's call is on its way, so there is one
pub find : (script : Script) (p : ℕ) (born : ℕ → Bool) (x : CallSight) (to sender : ℕ) (f : Frame) (fs : List Frame)
    → x.frames_about to sender ≡ f ∷ fs → (u : Option Call) → x.caller.under_way ≡ u
    → HasCallOrNone script p born x u → Found script p born x
find script p born x to sender f fs e (Some call) is h = record { call = call; is = is; has = h }
find script p born x to sender f fs e None is h =
    let nowhere : IsNowhere x = h.nowhere
    in absurd (not-none f fs (sym e ∙ nowhere.in_streams to sender))

module _ (script : Script) (w : World) (b : Beside) (holds : Holds script w [] b) (p q ticket : ℕ) (reply : Reply)
    (rest : List Frame) (h : Heads script w p q (frames.Answer ticket reply) rest) where
  abbrev frame : Frame
  frame = frames.Answer ticket reply

  abbrev x : CallSight
  x = call_sight w [] b p

  abbrev n : Node
  n = node_of w p

  call-holds : CallHolds script p (is_born_in w) x
  call-holds = holds.calls p h.low h.high

  node-holds : NodeHolds script b.pids (is_born_in w) p n
  node-holds = holds.nodes p h.low h.high

  other : q ≢ p
  other = head-from-another script w p q frame rest h (is_born_in w) holds.frames_fit

  born-sender : is_born_in w q ≡ true
  born-sender = head-may-be script w p q frame rest h (is_born_in w) holds.frames_fit

  about-first : x.frames_about p q ≡ frame ∷ filter (is_about p p q) rest
  about-first =
      ap (filter (is_about p p q)) (head-is script w p q frame rest h)
      ∙ ap (λ t. cond t (frame ∷ filter (is_about p p q) rest) (filter (is_about p p q) rest)) (eq-eqb p p refl)

  found : Found script p (is_born_in w) x
  found =
      find script p (is_born_in w) x p q frame (filter (is_about p p q) rest) about-first n.caller.under_way refl
      call-holds.call

  abbrev call : Call
  call = found.call

  has : HasCall script p (is_born_in w) x call
  has = found.has

  there : IsJustThere p x (asked_of x call)
  there = has.just_there

  is-answer : IsAnswerOf x.call (asked_of x call) q ticket reply (filter (is_about p p q) rest)
  is-answer =
      answer-of x.call (asked_of x call) p q ticket reply (filter (is_about p p q) rest)
      (sym (there.in_streams p q) ∙ about-first)

  made : IsMade script p x call reply
  made = subst (λ y. IsSoFar script p x call y) is-answer.place_is has.so_far

  at-line : (line : Line) × (slice_get (lines_of script p) n.caller.line ≡ Some line)
  at-line = due-at-line script p n.caller call made.due

  abbrev next-caller : Caller
  next-caller = answer_call script p n.caller call reply

  is-answered : IsAnswered script p n.caller call reply next-caller
  is-answered =
      let shape = holds.shape
      in answered script p shape.tries n.caller call reply at-line.0 at-line.1 has.try_left

  abbrev home : Home
  home = home_of n.pid call

  for-others : is_for_others home ≡ true
  for-others = sym (ap (λ y. may_be_in y home call) is-answer.place_is) ∙ has.home

  abbrev after-node : Node
  after-node = record n { cache = learnt n.cache q home; caller = next-caller }

  node-is : end_with_reply script n q call reply ≡ after-node
  node-is =
      ap (λ (m : Node). record m { caller = answer_call script n.number n.caller call reply }) (with-learnt n q home)
      ∙ ap (λ k. record n { cache = learnt n.cache q home; caller = answer_call script k n.caller call reply })
      node-holds.number

  under-way : under_way_as n ticket ≡ Some call
  under-way =
      ap (λ t. elim t [ true ↦ n.caller.under_way | false ↦ None ])
      (eq-eqb ticket n.caller.ticket is-answer.ticket_is)
      ∙ found.is

  abbrev after : Step
  after = step_to after-node

  rule : take_answer script n q ticket reply ≡ Some after
  rule =
      ap (option_and_then (answered_by script n q reply)) under-way
      ∙ ap (λ t. if t then Some (step_to (end_with_reply script n q call reply)) else None) for-others
      ∙ ap (λ m. Some (step_to m)) node-is

  -- what it changes

  abbrev next : World
  next = world_after (world_without w p q rest) p after

  abbrev calls-now : ℕ → CallPlace
  calls-now = call_in b.call p Idle

  abbrev moved : Beside
  moved = record b { call = calls-now }

  abbrev takes : List (ℕ × Frame)
  takes = (q, frame) ∷ []

  changes : Changes script p w next after-node takes [] []
  changes = changes-by-take script w holds.shape p q frame rest after h tt

  same-there : directory_of next ≡ directory_of w
  same-there = read-same script p w next after-node takes [] [] changes (λ (m : Node). m.leader.directory) refl 1

  no-end : is_end_stage n.stage ≡ false
  no-end = sym call-holds.ends ∙ ap is_end_place is-answer.place_is

  stage-fits : (is_born_stage n.stage ≡ true) × (has_left n.stage ≡ false)
  stage-fits = working n.stage has.at_work no-end

  abbrev IsOwner : Name × ℕ → Type 0
  IsOwner e = (is_born_in w e.1 ≡ true) × (e.1 ≢ p)

  owners-now : All IsOwner after-node.cache
  owners-now =
      learnt-all IsOwner n.cache q home
      (All-weaker (Contains n.cache) IsOwner (λ e there. node-holds.owners e.0 e.1 there) n.cache
      (All-contains_itself n.cache)) (λ name. (born-sender, other))

  node-now : NodeHolds script b.pids (is_born_in w) p after-node
  node-now =
      record {
        number = node-holds.number;
        holds = holds-stay p n after-node n.stage stage-fits.0 stage-fits.1 refl refl node-holds.holds;
        birth = node-holds.birth;
        first = node-holds.first;
        others = node-holds.others;
        rows = node-holds.rows;
        owners = λ name owner there. All-contains IsOwner after-node.cache (name, owner) owners-now there;
      }

  -- the call was in this frame alone
  left-alone : (to sender : ℕ) → filter (is_about p to sender) (changes.left to sender) ≡ []
  left-alone to sender =
      elim (cases_eq to p) [
        | inr d ↦ away (inl d) (ap (λ t. t && nat_eq sender q) (ne_eqb to p d))
        | inl e ↦
            elim (cases_eq sender q) [
              | inr d ↦
                  away (inr d) (ap (λ t. nat_eq to p && t) (ne_eqb sender q d) ∙ and-false (nat_eq to p))
              | inl g ↦
                  subst (λ y. filter (is_about p y sender) (changes.left y sender) ≡ []) (sym e)
                  (subst (λ z. filter (is_about p p z) (changes.left p z) ≡ []) (sym g) at-head)
            ]
      ]
    where
      and-false : (t : Bool) → (t && false) ≡ false
      and-false true = refl
      and-false false = refl

      away : (to ≢ p) ⊎ (sender ≢ q) → (nat_eq to p && nat_eq sender q) ≡ false
          → filter (is_about p to sender) (changes.left to sender) ≡ []
      away d none =
          others-stay script p q w next after-node frame [] [] changes (λ t s fs. filter (is_about p t s) fs)
          (λ t s. filter-is-list-map (is_about p t s)) to sender d
          ∙ there.in_streams to sender
          ∙ ap (λ y. only_if (is_in_stream y p to sender) (frame_at y (asked_of x call))) is-answer.place_is
          ∙ ap (λ t. only_if t (frames.Answer n.caller.ticket reply)) none

      at-head : filter (is_about p p q) (changes.left p q) ≡ []
      at-head =
          rest-same frame frame (filter (is_about p p q) (changes.left p q)) (filter (is_about p p q) rest)
          (sym (ap (λ t. cond t (frame ∷ []) [] ++ filter (is_about p p q) (changes.left p q)) (eq-eqb p p refl))
          ∙ sym (rest-stays script p q w next after-node frame [] [] changes
          (λ t s fs. filter (is_about p t s) fs) (λ t s. filter-is-list-map (is_about p t s)))
          ∙ about-first)
          ∙ is-answer.alone

  -- its process isn't parked
  own-marks : (a : Alive) → HasMarks (b.call p) (under_way_at w p) a → HasMarks (calls-now p) (under_way_at next p) a
  own-marks a marks =
      subst (λ place. HasMarks place (under_way_at next p) a)
      (sym (ap (λ t. if t then Idle else b.call p) (eq-eqb p p refl)))
      (subst (λ o. HasMarks Idle o a) (sym (ap (λ (m : Node). m.caller.under_way) changes.here ∙ is-answered.free))
      (subst (λ o. HasMarks (InAnswer q reply) o a) found.is
      (subst (λ place. HasMarks place (under_way_at w p) a) is-answer.place_is marks)))

  leaves-whole : LeavesWhole w next b moved
  leaves-whole =
      record {
        journal_is = changes.journal ∙ append-nil w.journal;
        lines_are = refl;
        kernel_is = refl;
        whole_is = refl;
        pids_are = λ y. refl;
        bodies_are = λ name. refl;
        marks_still = λ y a lives. marks-of-others w next b.call calls-now p
            (λ y d. ap (λ t. if t then Idle else b.call y) (ne_eqb p y (λ e. d (sym e))))
            (λ y d. ap (λ (m : Node). m.caller.under_way) (changes.others y d)) y a (λ e. own-marks a);
      }

  move : IsCallMove script w next [] [] Nothing Nothing b moved p after-node takes [] p
  move =
      record {
        stage = refl;
        under_way = λ left. absurd (false≢true (sym stage-fits.1 ∙ ap has_left left));
        own = λ d. absurd (d refl);
        queue_keys = refl;
        set_keys = refl;
        directory = same-but-call p (directory_of w) (directory_of next) same-there holds.leading;
        node = node-now;
        deeds = λ pid. refl;
        calls = λ y d. ap (λ t. if t then Idle else b.call y) (ne_eqb p y (λ e. d (sym e)));
        hand_of_others = λ y d. refl;
        parcels_at_hand = λ parcel there. there;
        whole = whole-left-alone w next b moved Nothing leaves-whole;
        waiters_of_others = λ y d name. refl;
        cancel_of_others = λ y d. refl;
        owed_of_others = λ y d same h. cancel-if-same y Nothing _ _ refl same h;
        plain_taken = (refl, tt);
        plain_sent = tt;
        no_birth_taken = (refl, tt);
        no_birth_sent = tt;
        of_no_other = λ y d. (ne_eqb p y (λ e. d (sym e)), tt);
        sent_of_no_other = λ y d. tt;
        no_cancel_taken = λ y d. (refl, tt);
        no_cancel_sent = λ y d. tt;
        may_be_sent = tt;
        to_others = tt;
      }

  more : IsMore (is_born_in w) (is_born_in next)
  more = move-born script w next [] [] Nothing Nothing b moved p after-node takes [] [] p h.low h.high holds changes
      move

  sight-now : SameCall (ended x next-caller) (call_sight next [] moved p)
  sight-now =
      record {
        number = sym (ap (λ (m : Node). m.number) changes.here);
        pid = sym (ap (λ (m : Node). m.pid) changes.here);
        stage = sym (ap (λ (m : Node). m.stage) changes.here);
        caller = sym (ap (λ (m : Node). m.caller) changes.here);
        leases = sym (ap (λ (m : Node). m.leases) changes.here);
        place = refl;
        alive = refl;
        call = sym (ap (λ t. if t then Idle else b.call p) (eq-eqb p p refl));
        frames_about = λ to sender. sym (only-stayed script p w next after-node takes [] [] changes
            (λ t s fs. filter (is_about p t s) fs) (λ t s. filter-is-list-map (is_about p t s)) tt to sender
            ∙ left-alone to sender);
        held = λ name. sym (ap (λ y. filter (is_item_about p) (held_for y name)) same-there
            ∙ there.held_for_names name
            ∙ ap (λ y. only_if (is_held_at y name) (Request (asked_of x call))) is-answer.place_is);
        hand = refl;
        waiters = λ name. sym (there.waiting name
            ∙ ap (λ y. only_if (is_waiting_at y name) (waiting_as (asked_of x call))) is-answer.place_is);
      }

  call-now : CallHolds script p (is_born_in next) (call_sight next [] moved p)
  call-now =
      call-stays script p (is_born_in w) (is_born_in next) _ _ more sight-now
      (call-ended script p (is_born_in w) x call q reply next-caller call-holds has is-answer.place_is is-answered)

  -- it had no withdrawal
  cancel-now : CancelHolds p Nothing (cancel_sight next [] moved p)
  cancel-now =
      let h_cancel : CancelHolds p Nothing (cancel_sight w [] b p) = holds.cancels p h.low h.high
      in cancel-over p Nothing Nothing (cancel_sight w [] b p) (cancel_sight next [] moved p)
      (old-still script p w next after-node takes [] [] changes [] [] b moved p
      (sym (ap (λ (m : Node). m.pid) changes.here))
      (subst (λ (m : Node). IsLater n.caller m.caller) (sym changes.here)
      (let same = is-answered.ticket_is
      in over-later n.caller after-node.caller (omega (arith, same)) is-answered.free))
      (λ name. ap (λ (d : Directory). filter (is_held_cancel_of p) (held_for d name)) same-there) refl
      (refl, tt) tt)
      (replied-uncancelled p Nothing (cancel_sight w [] b p) h_cancel call found.is
      (ap has_reply is-answer.place_is))
      (inl (ap (λ (m : Node). m.caller.under_way) changes.here ∙ is-answered.free))
      (λ owed. absurd (false≢true owed)) h_cancel

  leaves : (m : Name) → LeavesName w next [] [] b moved p after-node changes.left m
  leaves m =
      record {
        directory = same-directory (directory_of w) (directory_of next) same-there m;
        used_is = refl;
        part_is = refl;
        body_is = refl;
        deed_is = refl;
        held_is = refl;
        begins_is = λ holds_it comes. refl;
        hand_is = refl;
        steps_are = λ used y. steps-still script w next [] [] Nothing Nothing b moved p after-node takes [] [] p h.low
            h.high holds
            changes move used y (left-alone y 1) m;
        ranges_are = λ used y. ranges-still script w next [] [] Nothing Nothing b moved p after-node takes [] [] p h.low
            h.high holds
            changes move used y (left-alone y 1) m;
      }

  lease-same : (kind : Kind) (y : ℕ) → has_lease kind (calls-now y) ≡ has_lease kind (b.call y)
  lease-same kind y =
      elim (cases_eq p y) [
        | inl e ↦
            ap (λ t. has_lease kind (if t then Idle else b.call y)) (eq-eqb p y e)
            ∙ sym (subst (λ z. has_lease kind (b.call z) ≡ false) e (ap (has_lease kind) is-answer.place_is))
        | inr d ↦ ap (λ t. has_lease kind (if t then Idle else b.call y)) (ne_eqb p y d)
      ]

  -- The call is nowhere now.
  pub answer-keeps : KeepsAs script w (events.Take p q) moved
  answer-keeps =
      record {
        next = next;
        is_step = take-steps script w p q frame rest after holds.shape h rule refl;
        holds = call-move-keeps script w next [] [] Nothing Nothing b moved p after-node takes [] [] p h.low h.high
            holds
            changes move call-now cancel-now
            (λ m. name-stays script b.pids (is_born_in w) (is_born_in next) m _ _ more
            (name-left-alone script p w next after-node takes [] [] changes [] [] b moved m (leaves m) (refl, tt) tt)
            (holds.names m))
            (λ kind. kind-stays (is_born_in w) (is_born_in next) _ _ more
            (kind-left-alone script p w next after-node takes [] [] changes b.kernel b.kernel kind (λ number. refl)
            refl (ap (λ (y : Directory). for_kind y.ranges kind) same-there) (refl, tt) tt)
            (holds.kinds kind))
            (λ kind. few-still script p w next after-node takes [] [] changes b.call calls-now kind refl
            (ap (λ (y : Directory). for_kind y.ranges kind) same-there) (lease-same kind) (holds.few kind));
      }
