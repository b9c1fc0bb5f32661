-- A withdrawal goes to another place while its call stays where it is: it is taken from where it stands in front, and
-- put behind all that is where it goes. So it follows its call from there, too.
use Rattle.std.proofs.Common.{◌≡◌, ◌≢◌, ℕ, Bool, true, false, ◌&&◌, not, cond, nat_eq, List, [], ◌∷◌, ◌++◌, filter, refl, ap, sym, subst, ◌∙◌, append-nil}
use Rattle.std.specs.List.{AllByRecursion}
use Rattle.std.proofs.lemmas.Bool.{eq-eqb, ne_eqb, false≢true}
use Rattle.std.proofs.lemmas.List.Elements.{filter-append}
use Rattle.pico_base.specs.declared.call.Call.{Call}
use Rattle.pico_base.specs.declared.numbers.Name.{Name}
use Rattle.rpc_frame.specs.declared.asked.Asked.{Asked}
use Rattle.rpc_frame.specs.declared.frame.Frame.{Frame}
use Rattle.rpc_frame.specs.declared.frame.Frame.TheVariants as frames
use Rattle.waiting_model.specs.Calls.{is_withdrawal, may_park}
use Rattle.kernel_laws.proofs.Lists.{all-both, all-parts}
use Rattle.node_model.specs.declared.held.Held.{Held}
use Rattle.node_model.specs.declared.held.Held.TheVariants.{Request, Ending}
use Rattle.node_model.specs.Directory.{held_for}
use Rattle.world_model.specs.World.{World}
use Rattle.world_laws.specs.Places.{Beside, CallPlace, InAsk, CancelPlace}
use Rattle.world_laws.specs.Sights.{frames_to, directory_of}
use Rattle.world_laws.specs.Callers.{frame_at, is_held_at, is_in_hand, is_in_stream, only_if}
use Rattle.world_laws.specs.Cancels.{CancelHolds, CancelSight, FollowsItsCall, IsCancelFrame, IsCancelItem, IsCancelOf, Owing, cancel_held_at, cancel_in_hand, cancel_in_stream, cancel_sight, is_cancel_of, is_held_cancel_of, is_held_of_call, is_of_call}
use Rattle.world_laws.proofs.Cancels.{KnowsTickets, OldHold, frames-of, items-of}
use Rattle.world_laws.proofs.Following.{parks-is-no-cancel}

-- ---- one list

-- taken at its front, where it is there, and put at its end
pub record Moves {T : Type 0} (from to : Bool) (k : T) (before after : List T) : Type 0 where
  pub left : List T
  pub taken : before ≡ only_if from k ++ left
  pub put : after ≡ left ++ only_if to k

-- in what a test keeps that it passes it moves as well
pub kept-moves : {T : Type 0} (from to : Bool) (k : T) (before after : List T) (test : T → Bool) → test k ≡ true
    → Moves from to k before after → Moves from to k (filter test before) (filter test after)
kept-moves from to k before after test passes m =
    record {
      left = filter test m.left;
      taken = ap (λ xs. filter test xs) m.taken ∙ filter-append test (only_if from k) m.left
          ∙ ap (λ xs. xs ++ filter test m.left) (kept from);
      put = ap (λ xs. filter test xs) m.put ∙ filter-append test m.left (only_if to k)
          ∙ ap (λ xs. filter test m.left ++ xs) (kept to);
    }
  where
    kept : (t : Bool) → filter test (only_if t k) ≡ only_if t k
    kept true = ap (λ b. cond b (k ∷ []) []) passes
    kept false = refl

-- and what a test keeps that it doesn't pass stays
pub dropped-stays : {T : Type 0} (from to : Bool) (k : T) (before after : List T) (test : T → Bool) → test k ≡ false
    → Moves from to k before after → filter test before ≡ filter test after
dropped-stays from to k before after test fails m =
    ap (λ xs. filter test xs) m.taken ∙ filter-append test (only_if from k) m.left
    ∙ ap (λ xs. xs ++ filter test m.left) (dropped from)
    ∙ sym (ap (λ xs. filter test xs) m.put ∙ filter-append test m.left (only_if to k)
    ∙ ap (λ xs. filter test m.left ++ xs) (dropped to) ∙ append-nil (filter test m.left))
  where
    dropped : (t : Bool) → filter test (only_if t k) ≡ []
    dropped true = ap (λ b. cond b (k ∷ []) []) fails
    dropped false = refl

head-is : {T : Type 0} (x y : T) (xs ys : List T) → x ∷ xs ≡ y ∷ ys → x ≡ y
head-is x y xs ys h = cc

rest-is : {T : Type 0} (x y : T) (xs ys : List T) → x ∷ xs ≡ y ∷ ys → xs ≡ ys
rest-is x y xs ys h = cc

-- where the list was the call and its withdrawal, it is that afterwards
moved-behind : {T : Type 0} (a from to : Bool) (f k : T) (before after : List T) → f ≢ k
    → Moves from to k before after → before ≡ only_if a f ++ only_if from k
    → after ≡ only_if a f ++ only_if to k
moved-behind a false to f k before after differ m is =
    m.put ∙ ap (λ xs. xs ++ only_if to k) (sym m.taken ∙ is ∙ append-nil (only_if a f))
moved-behind false true to f k before after differ m is =
    m.put ∙ ap (λ xs. xs ++ only_if to k) (rest-is k k m.left [] (sym m.taken ∙ is))
moved-behind true true to f k before after differ m is =
    absurd (differ (sym (head-is k f m.left (k ∷ []) (sym m.taken ∙ is))))

-- what holds of each, and of the withdrawal, holds of each afterwards
moved-all : {T : Type 0} (P : T → Type 0) (from to : Bool) (k : T) (before after : List T) → P k
    → Moves from to k before after → AllByRecursion P before → AllByRecursion P after
moved-all P from to k before after holds m all =
    let both = all-parts P (only_if from k) m.left (subst (λ xs. AllByRecursion P xs) m.taken all)
    in subst (λ xs. AllByRecursion P xs) (sym m.put) (all-both P m.left (only_if to k) both.1 (there to))
  where
    there : (t : Bool) → AllByRecursion P (only_if t k)
    there true = (holds, tt)
    there false = tt

-- ---- all lists

-- what these tests keep is the same in all streams, lists and hands
pub record SameLists (items : Held → Bool) (frame : ℕ → ℕ → Frame → Bool) (w w' : World) (hand hand' : List Held) : Type
    0
  where
    pub streams : (at sender : ℕ)
        → filter (frame at sender) (frames_to w at sender) ≡ filter (frame at sender) (frames_to w' at sender)
    pub lists : (name : Name)
        → filter items (held_for (directory_of w) name) ≡ filter items (held_for (directory_of w') name)
    pub hands : filter items hand ≡ filter items hand'

-- The withdrawal goes from the one place to the other.
pub record CancelTravels (p : ℕ) (from to : CancelPlace) (cancel : Asked) (w w' : World) (hand hand' : List Held) : Type
    0
  where
    pub streams : (at sender : ℕ)
        → Moves (cancel_in_stream from p at sender) (cancel_in_stream to p at sender) (frames.Cancel cancel)
        (frames_to w at sender) (frames_to w' at sender)
    pub lists : (name : Name)
        → Moves (cancel_held_at from name) (cancel_held_at to name) (Request cancel)
        (held_for (directory_of w) name) (held_for (directory_of w') name)
    pub hands : Moves (cancel_in_hand from) (cancel_in_hand to) (Request cancel) hand hand'

abbrev is_cancel_frame : Frame → Bool
is_cancel_frame (frames.Cancel asked) = true
is_cancel_frame frame = false

not-a-cancel : (place : CallPlace) (asked cancel : Asked) → frame_at place asked ≢ frames.Cancel cancel
not-a-cancel place asked cancel e = false≢true (sym (by place) ∙ ap is_cancel_frame e)
  where
    by : (place : CallPlace) → is_cancel_frame (frame_at place asked) ≡ false
    by InAsk = refl
    by place = refl

abbrev is_cancel_item : Held → Bool
is_cancel_item (Request asked) = is_withdrawal asked.call
is_cancel_item (Ending parcel) = false

not-a-cancel-item : (asked cancel : Asked) → is_withdrawal asked.call ≡ false → is_withdrawal cancel.call ≡ true
    → Request asked ≢ Request cancel
not-a-cancel-item asked cancel is_call is_cancel e = false≢true (sym is_call ∙ ap is_cancel_item e ∙ is_cancel)

both-same : (m n k l : ℕ) → m ≡ n → k ≡ l → (nat_eq m n && nat_eq k l) ≡ true
both-same m n k l e f = rw (eq-eqb m n e, eq-eqb k l f) refl

module _ (p : ℕ) (from to : CancelPlace) (cancel : Asked) (w w' : World) (hand hand' : List Held) (b b' : Beside)
    (t : CancelTravels p from to cancel w w' hand hand') (of_p : cancel.caller ≡ p)
    (is_cancel : is_withdrawal cancel.call ≡ true) where
  abbrev x : CancelSight
  x = cancel_sight w hand b p

  abbrev y : CancelSight
  y = cancel_sight w' hand' b' p

  -- ---- the withdrawal of the call under way

  module _ (call : Call) (asked : Asked) (parks : may_park call ≡ true) (of_call : asked.call ≡ call)
      (same_ticket : x.caller.ticket ≡ y.caller.ticket) (own : cancel.ticket ≡ x.caller.ticket)
      (was : x.cancel ≡ from) (now : y.cancel ≡ to) (same : x.call ≡ y.call)
      (h : FollowsItsCall p x asked cancel) where
    passes : (nat_eq cancel.caller p && nat_eq cancel.ticket x.caller.ticket) ≡ true
    passes = both-same cancel.caller p cancel.ticket x.caller.ticket of_p own

    differ : Request asked ≢ Request cancel
    differ = not-a-cancel-item asked cancel (ap is_withdrawal of_call ∙ parks-is-no-cancel call parks) is_cancel

    behind-in-stream : (at sender : ℕ)
        → y.of_call at sender
        ≡ only_if (is_in_stream y.call p at sender) (frame_at y.call asked)
        ++ only_if (cancel_in_stream y.cancel p at sender) (frames.Cancel cancel)
    behind-in-stream at sender =
        ap (λ k. filter (is_of_call p k at sender) (frames_to w' at sender)) (sym same_ticket)
        ∙ moved-behind (is_in_stream x.call p at sender) (cancel_in_stream from p at sender)
        (cancel_in_stream to p at sender) (frame_at x.call asked) (frames.Cancel cancel) (x.of_call at sender)
        (filter (is_of_call p x.caller.ticket at sender) (frames_to w' at sender)) (not-a-cancel x.call asked cancel)
        (kept-moves (cancel_in_stream from p at sender) (cancel_in_stream to p at sender) (frames.Cancel cancel)
        (frames_to w at sender) (frames_to w' at sender) (is_of_call p x.caller.ticket at sender) passes
        (t.streams at sender))
        (h.in_streams at sender
        ∙ ap (λ c. only_if (is_in_stream x.call p at sender) (frame_at x.call asked)
        ++ only_if (cancel_in_stream c p at sender) (frames.Cancel cancel)) was)
        ∙ ap (λ c. only_if (is_in_stream x.call p at sender) (frame_at x.call asked)
        ++ only_if (cancel_in_stream c p at sender) (frames.Cancel cancel)) (sym now)
        ∙ ap (λ c. only_if (is_in_stream c p at sender) (frame_at c asked)
        ++ only_if (cancel_in_stream y.cancel p at sender) (frames.Cancel cancel)) same

    behind-in-list : (items items' : List Held) (is_there : CallPlace → Bool) (also : CancelPlace → Bool)
        → Moves (also from) (also to) (Request cancel) items items'
        → filter (is_held_of_call p x.caller.ticket) items
        ≡ only_if (is_there x.call) (Request asked) ++ only_if (also x.cancel) (Request cancel)
        → filter (is_held_of_call p y.caller.ticket) items'
        ≡ only_if (is_there y.call) (Request asked) ++ only_if (also y.cancel) (Request cancel)
    behind-in-list items items' is_there also m is =
        ap (λ k. filter (is_held_of_call p k) items') (sym same_ticket)
        ∙ moved-behind (is_there x.call) (also from) (also to) (Request asked) (Request cancel)
        (filter (is_held_of_call p x.caller.ticket) items) (filter (is_held_of_call p x.caller.ticket) items') differ
        (kept-moves (also from) (also to) (Request cancel) items items' (is_held_of_call p x.caller.ticket) passes m)
        (is ∙ ap (λ c. only_if (is_there x.call) (Request asked) ++ only_if (also c) (Request cancel)) was)
        ∙ ap (λ c. only_if (is_there x.call) (Request asked) ++ only_if (also c) (Request cancel)) (sym now)
        ∙ ap (λ c. only_if (is_there c) (Request asked) ++ only_if (also y.cancel) (Request cancel)) same

    -- It follows its call from there: the lists of both are as the places say.
    pub follows-there : FollowsItsCall p y asked cancel
    follows-there =
        record {
          in_streams = behind-in-stream;
          held_for_names = λ name. behind-in-list (held_for (directory_of w) name) (held_for (directory_of w') name)
              (λ c. is_held_at c name) (λ c. cancel_held_at c name) (t.lists name) (h.held_for_names name);
          in_hand = behind-in-list hand hand' is_in_hand cancel_in_hand t.hands h.in_hand;
        }

  -- ---- a withdrawal of an earlier call

  -- the lists of the call under way and its withdrawal stay
  pub earlier-travels : cancel.ticket ≢ x.caller.ticket
      → SameLists (is_held_of_call p x.caller.ticket) (is_of_call p x.caller.ticket) w w' hand hand'
  earlier-travels other =
      record {
        streams = λ at sender. dropped-stays (cancel_in_stream from p at sender) (cancel_in_stream to p at sender)
            (frames.Cancel cancel) (frames_to w at sender) (frames_to w' at sender)
            (is_of_call p x.caller.ticket at sender) fails (t.streams at sender);
        lists = λ name. dropped-stays (cancel_held_at from name) (cancel_held_at to name) (Request cancel)
            (held_for (directory_of w) name) (held_for (directory_of w') name) (is_held_of_call p x.caller.ticket)
            fails (t.lists name);
        hands = dropped-stays (cancel_in_hand from) (cancel_in_hand to) (Request cancel) hand hand'
            (is_held_of_call p x.caller.ticket) fails t.hands;
      }
    where
      not-both : (a b : Bool) → b ≡ false → (a && b) ≡ false
      not-both true b h = h
      not-both false b h = refl

      fails : (nat_eq cancel.caller p && nat_eq cancel.ticket (cancel_sight w hand b p).caller.ticket) ≡ false
      fails = not-both (nat_eq cancel.caller p) _ (ne_eqb cancel.ticket (cancel_sight w hand b p).caller.ticket other)

  -- ---- any of them

  -- each withdrawal is still one of a call that was started
  pub old-travels : (owes : Owing) → KnowsTickets x y → IsCancelOf y cancel → CancelHolds p owes x → OldHold y
  old-travels owes knows of h =
      record {
        frames = λ at sender.
            moved-all (IsCancelFrame y) (cancel_in_stream from p at sender) (cancel_in_stream to p at sender)
            (frames.Cancel cancel) (x.cancels at sender) (y.cancels at sender) of
            (kept-moves (cancel_in_stream from p at sender) (cancel_in_stream to p at sender) (frames.Cancel cancel)
            (frames_to w at sender) (frames_to w' at sender) (is_cancel_of p) (eq-eqb cancel.caller p of_p)
            (t.streams at sender))
            (frames-of x y knows (x.cancels at sender) (h.frames at sender));
        held = λ name.
            still-old (cancel_held_at from name) (cancel_held_at to name) (held_for (directory_of w) name)
            (held_for (directory_of w') name) (t.lists name) (items-of x y knows (x.held_cancels name) (h.held name));
        hand = still-old (cancel_in_hand from) (cancel_in_hand to) hand hand' t.hands
            (items-of x y knows x.hand_cancels h.hand);
      }
    where
      passes-too : (a c : Bool) → a ≡ true → c ≡ true → (a && c) ≡ true
      passes-too a c e f = rw (e, f) refl

      still-old : (there also : Bool) (items items' : List Held)
          → Moves there also (Request cancel) items items'
          → AllByRecursion (IsCancelItem (cancel_sight w' hand' b' p)) (filter (is_held_cancel_of p) items)
          → AllByRecursion (IsCancelItem (cancel_sight w' hand' b' p)) (filter (is_held_cancel_of p) items')
      still-old there also items items' m all =
          moved-all (IsCancelItem (cancel_sight w' hand' b' p)) there also (Request cancel)
          (filter (is_held_cancel_of p) items) (filter (is_held_cancel_of p) items') of
          (kept-moves there also (Request cancel) items items' (is_held_cancel_of p)
          (passes-too (nat_eq cancel.caller p) (is_withdrawal cancel.call) (eq-eqb cancel.caller p of_p) is_cancel) m)
          all
