-- A number that a call takes, whatever its source: nothing has it, it is the node's, and nobody knows a name with
-- it. And what the call's entry leaves of the history, of the keys, and of the call itself.
use Rattle.std.proofs.Common.{◌≡◌, ◌≢◌, ℕ, ◌≤◌, Bool, true, false, if◌then◌else◌, List, [], ◌∷◌, ◌++◌, filter, flat_map, Option, Some, None, refl, ap, sym, subst, ◌∙◌, inl, arith}
use Rattle.std.specs.List.{AllByRecursion}
use Rattle.std.proofs.lemmas.Bool.{eq-eqb, ne_eqb, false≢true}
use Rattle.pico_base.specs.declared.call.Call.{Call}
use Rattle.pico_base.specs.declared.numbers.Kind.{Kind}
use Rattle.pico_base.specs.declared.numbers.Name.{Name}
use Rattle.pico_base.specs.declared.reply.Entry.{Entry}
use Rattle.pico_base.specs.declared.reply.Reply.{Reply}
use Rattle.pico_base.specs.declared.script.Event.{Event}
use Rattle.pico_base.specs.declared.script.Script.{Script}
use Rattle.rpc_frame.specs.declared.frame.Frame.{Frame}
use Rattle.number_maps.specs.Maps.{get, is_used}
use Rattle.kernel_model.specs.Fitting.{Place, place_after, places_after}
use Rattle.kernel_model.specs.Footprint.{used_of}
use Rattle.kernel_model.specs.Kernel.{Kernel, living_at}
use Rattle.kernel_model.specs.Numbers.{is_positive_u32}
use Rattle.kernel_model.specs.Row.{Alive}
use Rattle.entry_laws.specs.Entering.{HasHistory, HasKeys, KeepsKeys, Makes, is_used_name}
use Rattle.entry_laws.proofs.History.{history-goes-on}
use Rattle.entry_laws.proofs.Keys.{keys-kept}
use Rattle.node_model.specs.Bodies.{waiters_of}
use Rattle.node_model.specs.Caller.{Caller, answer_call, caller_place}
use Rattle.node_model.specs.Directory.{Place as DirectoryPlace, maker, maker_in, place_of}
use Rattle.node_model.specs.Kinds.{for_kind, kind_of, number_of}
use Rattle.node_model.specs.Entries.{entry_by}
use Rattle.world_model.specs.Node.{Leader, Living, Node}
use Rattle.world_model.specs.World.{World, node_count}
use Rattle.world_laws.specs.Places.{Beside, Idle}
use Rattle.world_laws.specs.Sights.{directory_of, frames_to, is_born_in, node_of}
use Rattle.world_laws.specs.Callers.{CallHolds, HasTries, call_sight, is_about, is_item_about, is_waiter_of}
use Rattle.world_laws.specs.Cancels.{CancelHolds, Nothing, cancel_sight, is_cancel_of, is_held_cancel_of}
use Rattle.world_laws.specs.Invariant.{Holds}
use Rattle.world_laws.specs.Names.{name_sight}
use Rattle.world_laws.specs.Ranges.{KeysHold, KindSight, kind_sight, lease_at, lease_in}
use Rattle.world_laws.proofs.Cancels.{over-later}
use Rattle.world_laws.proofs.Changes.{Changes, filter-is-list-map, only-stayed, read-same}
use Rattle.world_laws.proofs.Lines.{IsAnswered}
use Rattle.world_laws.proofs.Replied.{cancel-over}
use Rattle.world_laws.proofs.Frames.{ArePlain, BringNoBirth, all-weaker, not-about}
use Rattle.rule_laws.proofs.Withdrawals.{old-still}
use Rattle.rule_laws.proofs.own.Made.{number-is-low}
use Rattle.rule_laws.proofs.own.NewNumbers.{taken-maker, taken-unused}
use Rattle.rule_laws.proofs.makes.CallsOver.{call-over, is-answered}
use Rattle.rule_laws.proofs.makes.Directories.{IsAfter}
use Rattle.rule_laws.proofs.makes.NewOnes.{nothing-known}
use Rattle.rule_laws.proofs.makes.Ready.{left-alone, made_beside}
use Rattle.rule_laws.proofs.makes.Sources.{Comes, InLease, Next, Origin, Source, directory_by, ready_kind, takes_by}

-- ---- the frame that brought it

-- it is of nobody else's call
pub taken-of-no-other : (kind : Kind) (p : ℕ) (o : Origin) (y : ℕ) → y ≢ p
    → AllByRecursion (λ t. is_about y p t.0 t.1 ≡ false) (takes_by kind o)
taken-of-no-other kind p InLease y d = tt
taken-of-no-other kind p (Comes first) y d = (ne_eqb p y (λ g. d (sym g)), tt)
taken-of-no-other kind p Next y d = tt

-- it is nothing of an end
pub taken-plain : (kind : Kind) (o : Origin) → ArePlain (takes_by kind o)
taken-plain kind InLease = tt
taken-plain kind (Comes first) = (refl, tt)
taken-plain kind Next = tt

-- and of no birth
pub taken-no-birth : (kind : Kind) (o : Origin) → BringNoBirth (takes_by kind o)
taken-no-birth kind InLease = tt
taken-no-birth kind (Comes first) = (refl, tt)
taken-no-birth kind Next = tt

-- and no withdrawal
pub taken-no-cancel : (kind : Kind) (o : Origin) (y : ℕ) → AllByRecursion (λ t. is_cancel_of y t.1
    ≡ false) (takes_by kind o)
taken-no-cancel kind InLease y = tt
taken-no-cancel kind (Comes first) y = (refl, tt)
taken-no-cancel kind Next y = tt

module _ (script : Script) (w : World) (b : Beside) (holds : Holds script w [] b) (p : ℕ) (call : Call) (kind : Kind)
    (number : ℕ) (numbers : List ℕ) (o : Origin) (e : Event)
    (s : Source script w b p call kind number numbers o e) where
  abbrev x : KindSight
  x =
      ready_kind (kind_sight w b.kernel kind) p (number ∷ numbers)
      (for_kind (directory_by (directory_of w) kind o).ranges kind)

  lease : x.leases p ≡ number ∷ numbers
  lease = ap (λ t. if t then number ∷ numbers else lease_at w kind p) (eq-eqb p p refl)

  none-coming : x.coming p ≡ []
  none-coming = ap (λ t. if t then [] else flat_map (lease_in kind) (frames_to w p 1)) (eq-eqb p p refl)

  -- nothing has the number
  pub number-unused : is_used (used_of b.kernel kind) number ≡ false
  number-unused = taken-unused (is_born_in w) x s.ready p s.low number numbers lease none-coming

  -- its range is the node's
  pub number-maker : maker_in (for_kind (directory_by (directory_of w) kind o).ranges kind) number ≡ Some p
  number-maker = taken-maker (is_born_in w) x s.ready p s.low number numbers lease none-coming

  -- it is a number of four bytes
  pub number-positive : is_positive_u32 number ≡ true
  number-positive =
      number-is-low (for_kind (directory_by (directory_of w) kind o).ranges kind) number p s.enough number-maker

  -- there is a node
  pub some-node : 1 ≤ node_count script
  some-node = let low = s.low in let high = s.high in omega (arith, low, high)

  module _ (name : Name) (kind_is : kind_of name ≡ kind) (number_is : number_of name ≡ number) where
    -- so nothing has a name with it
    pub name-unused : is_used_name b.kernel name ≡ false
    name-unused =
        ap (λ y. is_used (used_of b.kernel y) (number_of name)) kind_is
        ∙ ap (is_used (used_of b.kernel kind)) number_is ∙ number-unused

    -- which is the node's to make
    pub name-maker : maker (directory_by (directory_of w) kind o) name ≡ Some p
    name-maker =
        ap (λ y. maker_in (for_kind (directory_by (directory_of w) kind o).ranges y) (number_of name)) kind_is
        ∙ ap (maker_in (for_kind (directory_by (directory_of w) kind o).ranges kind)) number_is ∙ number-maker

    -- and which nobody knows
    pub name-unknown : place_of (directory_of w) name ≡ None
    name-unknown =
        nothing-known script b.pids (is_born_in w) name (name_sight script w [] b name) (holds.names name) name-unused

  -- ---- its entry

  abbrev pid : ℕ
  pid = b.pids p

  abbrev place : Place
  place = caller_place script p s.caller

  module _ (next : World) (n : Node) (sends : List (ℕ × Frame)) (reply : Reply) (after : Kernel)
      (c : Changes script p w next n (takes_by kind o) sends (entry_by p pid call reply ∷ [])) where
    abbrev entries : List Entry
    entries = entry_by p pid call reply ∷ []

    -- the history goes on
    pub history-after : Makes b.kernel pid call reply after
        → HasHistory script (b.lines ++ entries) after (places_after script b.places (entry_by p pid call reply) place)
    history-after makes =
        history-goes-on script b.lines b.kernel b.places p pid call reply place after holds.history s.there s.is_due
        makes

    -- the leader's keys are the kernel's
    pub keys-after : KeepsKeys b.kernel after → n.leader.queue_keys ≡ (node_of w p).leader.queue_keys
        → n.leader.set_keys ≡ (node_of w p).leader.set_keys → KeysHold (node_of next 1).leader after
    keys-after keeps queues sets =
        let l : Leader = (node_of w 1).leader
        in let m : Leader = (node_of next 1).leader
        in subst (λ keys. HasKeys keys m.set_keys after)
        (sym (read-same script p w next n (takes_by kind o) sends entries c (λ (z : Node). z.leader.queue_keys) queues
        1))
        (subst (λ keys. HasKeys l.queue_keys keys after)
        (sym (read-same script p w next n (takes_by kind o) sends entries c (λ (z : Node). z.leader.set_keys) sets 1))
        (keys-kept l.queue_keys l.set_keys b.kernel after keeps holds.keys))

    -- What stands beside the world afterwards: its call is over.
    abbrev made : Beside → Beside
    made b' = made_beside script w b holds p call kind number numbers o e s next n sends entries c b'

    tries : HasTries script
    tries = let shape = holds.shape in shape.tries

    -- the call is over
    pub call-after : (born : ℕ → Bool) (b' : Beside) (alive : Alive) (name : Name) (at : Option DirectoryPlace)
        → IsAfter (directory_of w) (directory_by (directory_of w) kind o) (directory_of next) name at
        → n.caller ≡ answer_call script p s.caller call reply → n.stage ≡ Living
        → get b'.places (b'.pids p) ≡ Some (place_after place call (Some reply))
        → living_at b'.kernel (b'.pids p) ≡ Some alive
        → ((m : Name) → filter (is_waiter_of p) (waiters_of (b'.body m)) ≡ [])
        → AllByRecursion (λ t. is_about p t.0 p t.1 ≡ false) sends
        → CallHolds script p born (call_sight next [] (made b') p)
    call-after born b' alive name at a caller stage there lives none_waits none =
        call-over script tries p born (call_sight next [] (made b') p) s.caller call reply alive s.is_due s.tickets
        s.try_left
        (ap (λ (m : Node). m.caller) c.here ∙ caller) (ap (λ (m : Node). m.stage) c.here ∙ stage)
        (ap (λ t. if t then Idle else b.call p) (eq-eqb p p refl))
        (record {
          in_streams = λ to sender. only-stayed script p w next n (takes_by kind o) sends entries c
              (λ t q fs. filter (is_about p t q) fs) (λ t q. filter-is-list-map (is_about p t q))
              (all-weaker (λ t. not-about p t.0 p t.1) sends none) to sender
              ∙ left-alone script w b holds p call kind number numbers o e s next n sends entries c to sender;
          held_for_names = λ m. ap (filter (is_item_about p)) (a.held m) ∙ s.not_held m;
          in_hand = refl;
          waiting = none_waits;
        }) there lives

    -- how the node stands with its call
    is-over : IsAnswered script p s.caller call reply (answer_call script p s.caller call reply)
    is-over =
        is-answered script tries p (is_born_in w) (record (call_sight w [] b p) {
          caller = answer_call script p s.caller call reply;
        }) s.caller call reply s.may.alive s.is_due s.tickets s.try_left refl

    -- none is under way
    pub free-after : n.caller ≡ answer_call script p s.caller call reply → n.caller.under_way ≡ None
    free-after caller = ap (λ (m : Caller). m.under_way) caller ∙ is-over.free

    -- and there is no withdrawal of it
    pub cancel-after : (b' : Beside) (name : Name) (at : Option DirectoryPlace)
        → IsAfter (directory_of w) (directory_by (directory_of w) kind o) (directory_of next) name at
        → n.caller ≡ answer_call script p s.caller call reply → n.pid ≡ (node_of w p).pid → b'.cancel p ≡ b.cancel p
        → AllByRecursion (λ t. is_cancel_of p t.1 ≡ false) sends
        → CancelHolds p Nothing (cancel_sight next [] (made b') p)
    cancel-after b' name at a caller process cancel none =
        let now : (node_of next p).caller ≡ answer_call script p s.caller call reply =
        ap (λ (m : Node). m.caller) c.here ∙ caller
        in let ticket : (node_of next p).caller.ticket ≡ s.caller.ticket =
        ap (λ (m : Caller). m.ticket) now ∙ is-over.ticket_is
        in let free : (node_of next p).caller.under_way ≡ None =
        ap (λ (m : Caller). m.under_way) now ∙ is-over.free
        in let older = s.older
        in cancel-over p Nothing Nothing (cancel_sight w [] b p) (cancel_sight next [] (made b') p)
        (old-still script p w next n (takes_by kind o) sends entries c [] [] b (made b') p
        (sym (ap (λ (m : Node). m.pid) c.here ∙ process))
        (over-later (let m : Node = node_of w p in m.caller) (let m : Node = node_of next p in m.caller)
        (omega (arith, ticket, older)) free)
        (λ m. ap (filter (is_held_cancel_of p)) (a.held m)) refl (taken-no-cancel kind o p) none)
        (cancel ∙ s.uncancelled) (inl free) (λ owed. absurd (false≢true owed))
        (holds.cancels p s.low s.high)
