-- What is held for names that have come to a node is in the leader's hand, also the withdrawals of calls, each behind
-- its call. All holds of them as before.
use Rattle.std.proofs.Common.{◌≡◌, Bool, List, None, Option, Some, [], ap, append-nil, false, flat_map, if◌then◌else◌, refl, subst, sym, true, ℕ, ◌&&◌, ◌++◌, ◌||◌, ◌∙◌, ◌∷◌}
use Rattle.std.specs.List.{AllByRecursion}
use Rattle.std.proofs.lemmas.Bool.{false≢true}
use Rattle.pico_base.specs.declared.call.Call.{Call}
use Rattle.pico_base.specs.declared.numbers.Name.{Name}
use Rattle.pico_base.specs.declared.call.Call.TheVariants as calls
use Rattle.rpc_frame.specs.declared.asked.Asked.{Asked}
use Rattle.rpc_frame.specs.declared.frame.Frame.TheVariants as frames
use Rattle.kernel_laws.proofs.Lists.{all-both}
use Rattle.waiting_model.specs.Marks.{Alive}
use Rattle.waiting_model.specs.Calls.{may_park, waits_at}
use Rattle.route_laws.proofs.exits.Arrivals.{AreApart, is_one_of, none-of-all}
use Rattle.route_laws.proofs.exits.Released.{apart-names, call-held-still, call_released, in-stream-still}
use Rattle.world_laws.specs.Cancels.{CallMayWait, CancelSight, FollowsItsCall, IsCancelItem, LeadsNowhere, MayBeInterrupted, OfCall, asked_as, cancel_held_at, cancel_in_hand, cancel_in_stream, has_reply, may_follow, CancelHolds, Owing, is_owed, AStrike, CancelIf, Nothing, Wakes}
use Rattle.world_laws.specs.Places.{CallPlace, CancelHeld, CancelInHand, CancelPlace, IsHeld, IsInHand, NoCancel, Parked, SentByPlace, SentByRange, SentTo, ToLeader, Waits}
use Rattle.world_laws.specs.Callers.{frame_at, is_held_at, is_in_hand, is_in_stream, only_if}
use Rattle.world_laws.proofs.Named.{other-name, same-name, same-name-is}
use Rattle.world_laws.proofs.Cancels.{KnowsTickets, frames-of, items-of, same-later}
use Rattle.world_laws.specs.Wholes.{HasMarks}
use Rattle.world_laws.proofs.Wholes.{marks-go-on}
use Rattle.node_model.specs.declared.held.Held.{Held}
use Rattle.node_model.specs.declared.held.Held.TheVariants.{Request}
use Rattle.node_model.specs.Kinds.{is_object, is_same_name}

-- a withdrawal that was held for one of the names is in hand
abbrev pub cancel_released : List Name → CancelPlace → CancelPlace
cancel_released names (CancelHeld name) = if is_one_of name names then CancelInHand else CancelHeld name
cancel_released names place = place

-- ---- lists

module _ {T : Type 0} where
  if-both : (t : Bool) (xs ys : List T)
      → (if t then [] else xs ++ ys) ≡ (let rest : List T = (if t then [] else ys) in (if t then [] else xs) ++ rest)
  if-both true xs ys = refl
  if-both false xs ys = refl

  -- what one name of the list has is all that the names have
  at-one : (names : List Name) (m : Name) (there : List T) (f : Name → List T) → AreApart names
      → ((name : Name) → f name ≡ (if is_same_name m name then there else []))
      → flat_map f names ≡ (if is_one_of m names then there else [])
  at-one [] m there f apart each = refl
  at-one (n ∷ names) m there f apart each =
      by-test (is_same_name m n) refl (at-one names m there f apart.1 each)
    where
      by-test : (t : Bool) → is_same_name m n ≡ t → flat_map f names ≡ (if is_one_of m names then there else [])
          → f n ++ flat_map f names ≡ (if is_same_name m n || is_one_of m names then there else [])
      by-test true e rest =
          let none : is_one_of m names ≡ false = ap (λ a. is_one_of a names) (same-name-is m n e) ∙ apart.0
          in ap (λ xs. xs ++ flat_map f names) (each n ∙ ap (λ t. if t then there else []) e)
          ∙ ap (λ xs. there ++ xs) (rest ∙ ap (λ t. if t then there else []) none)
          ∙ append-nil there
          ∙ ap (λ t. if t || is_one_of m names then there else []) (sym e)
      by-test false e rest =
          ap (λ xs. xs ++ flat_map f names) (each n ∙ ap (λ t. if t then there else []) e)
          ∙ rest
          ∙ ap (λ t. if t || is_one_of m names then there else []) (sym e)

  none-at-all : (names : List Name) (f : Name → List T) → ((name : Name) → f name ≡ []) → flat_map f names ≡ []
  none-at-all names f none = none-of-all f names none

  -- and what is said of each is said of all
  all-flat : (P : T → Type 0) (f : Name → List T) (names : List Name) → ((name : Name) → AllByRecursion P (f name))
      → AllByRecursion P (flat_map f names)
  all-flat P f [] each = tt
  all-flat P f (name ∷ names) each = all-both P (f name) (flat_map f names) (each name) (all-flat P f names each)

-- ---- a call and its withdrawal

module _ (names : List Name) where
  cancel-stream-still : (c : CancelPlace) (p to sender : ℕ)
      → cancel_in_stream c p to sender ≡ cancel_in_stream (cancel_released names c) p to sender
  cancel-stream-still (CancelHeld m) p to sender = by-test (is_one_of m names)
    where
      by-test : (t : Bool) → false ≡ cancel_in_stream (if t then CancelInHand else CancelHeld m) p to sender
      by-test true = refl
      by-test false = refl
  cancel-stream-still c p to sender = refl

  held-for-cancel : (m name : Name) (item : Held) (s : Bool) → is_one_of m names ≡ s → (t : Bool)
      → is_one_of name names ≡ t
      → (if t then [] else only_if (is_same_name m name) item)
      ≡ only_if (cancel_held_at (if s then CancelInHand else CancelHeld m) name) item
  held-for-cancel m name item true a true b = refl
  held-for-cancel m name item true a false b =
      ap (λ t. only_if t item) (other-name m name (apart-names names m name a b))
  held-for-cancel m name item false a true b =
      ap (λ t. only_if t item)
      (sym (other-name m name (λ g. apart-names names name m b a (sym g))))
  held-for-cancel m name item false a false b = refl

  none-of : {T : Type 0} (t : Bool) → (let none : List T = [] in (if t then none else none) ≡ none)
  none-of true = refl
  none-of false = refl

  -- what is still held of it
  cancel-held-still : (c : CancelPlace) (name : Name) (item : Held)
      → (if is_one_of name names then [] else only_if (cancel_held_at c name) item)
      ≡ only_if (cancel_held_at (cancel_released names c) name) item
  cancel-held-still (CancelHeld m) name item =
      held-for-cancel m name item (is_one_of m names) refl (is_one_of name names) refl
  cancel-held-still c name item = none-of (is_one_of name names)

  -- both are held for a name, or not any more
  both-held-still : (c : CallPlace) (k : CancelPlace) (name : Name) (call cancel : Held) (xs : List Held)
      → xs ≡ only_if (is_held_at c name) call ++ only_if (cancel_held_at k name) cancel
      → (if is_one_of name names then [] else xs)
      ≡ only_if (is_held_at (call_released names c) name) call
      ++ only_if (cancel_held_at (cancel_released names k) name) cancel
  both-held-still c k name call cancel xs e =
      ap (λ ys. if is_one_of name names then [] else ys) e
      ∙ if-both (is_one_of name names) (only_if (is_held_at c name) call) (only_if (cancel_held_at k name) cancel)
      ∙ ap (λ ys. ys ++ (if is_one_of name names then [] else only_if (cancel_held_at k name) cancel))
      (call-held-still names c name call (only_if (is_held_at c name) call) refl)
      ∙ ap (λ ys. only_if (is_held_at (call_released names c) name) call ++ ys) (cancel-held-still k name cancel)

  -- which of them are in hand, by where they are
  abbrev Both : CallPlace → CancelPlace → Held → Held → List Held
  Both c k call cancel = only_if (is_in_hand c) call ++ only_if (cancel_in_hand k) cancel

  abbrev HeldSo : CallPlace → CancelPlace → Held → Held → (Name → List Held) → Type 0
  HeldSo c k call cancel f = (name : Name)
      → f name ≡ only_if (is_held_at c name) call ++ only_if (cancel_held_at k name) cancel

  only-is-if : (t : Bool) (x : Held) → only_if t x ≡ (if t then x ∷ [] else [])
  only-is-if true x = refl
  only-is-if false x = refl

  two-at : (t : Bool) (x y : Held) → only_if t x ++ only_if t y ≡ (if t then x ∷ y ∷ [] else [])
  two-at true x y = refl
  two-at false x y = refl

  with-none : (t : Bool) (x : Held) → only_if t x ++ [] ≡ (if t then x ∷ [] else [])
  with-none true x = refl
  with-none false x = refl

  -- the call was held, and its withdrawal with it
  two-come : (m n : Name) (call cancel : Held) (f : Name → List Held) → AreApart names → n ≡ m
      → HeldSo (IsHeld m) (CancelHeld n) call cancel f
      → flat_map f names
      ≡ Both (call_released names (IsHeld m)) (cancel_released names (CancelHeld n)) call cancel
  two-come m n call cancel f apart same held =
      at-one names m (call ∷ cancel ∷ []) f apart
      (λ name. held name
      ∙ ap (λ z. only_if (is_same_name m name) call ++ only_if (is_same_name z name) cancel) same
      ∙ two-at (is_same_name m name) call cancel)
      ∙ in-hand (is_one_of m names)
      ∙ ap (λ z. Both (call_released names (IsHeld m)) (cancel_released names (CancelHeld z)) call cancel) (sym same)
    where
      in-hand : (t : Bool)
          → (if t then call ∷ cancel ∷ [] else [])
          ≡ Both (if t then IsInHand else IsHeld m) (if t then CancelInHand else CancelHeld m) call cancel
      in-hand true = refl
      in-hand false = refl

  -- the call alone was held
  call-comes : (m : Name) (k : CancelPlace) (call cancel : Held) (f : Name → List Held) (xs : List Held)
      → AreApart names → ((name : Name) → cancel_held_at k name ≡ false) → HeldSo (IsHeld m) k call cancel f
      → xs ≡ Both (IsHeld m) k call cancel
      → flat_map f names ++ xs ≡ Both (call_released names (IsHeld m)) k call cancel
  call-comes m k call cancel f xs apart not_held held e =
      ap (λ ys. ys ++ xs)
      (at-one names m (call ∷ []) f apart
      (λ name. held name ∙ ap (λ t. only_if (is_same_name m name) call ++ only_if t cancel) (not_held name)
      ∙ with-none (is_same_name m name) call))
      ∙ ap (λ ys. (if is_one_of m names then call ∷ [] else []) ++ ys) e
      ∙ in-hand (is_one_of m names)
    where
      in-hand : (t : Bool)
          → (if t then call ∷ [] else []) ++ only_if (cancel_in_hand k) cancel
          ≡ Both (if t then IsInHand else IsHeld m) k call cancel
      in-hand true = refl
      in-hand false = refl

  -- its withdrawal alone was
  cancel-comes : (c : CallPlace) (n : Name) (call cancel : Held) (f : Name → List Held) (xs : List Held)
      → AreApart names → is_in_hand c ≡ false → ((name : Name) → is_held_at c name ≡ false)
      → HeldSo c (CancelHeld n) call cancel f → xs ≡ Both c (CancelHeld n) call cancel
      → flat_map f names ++ xs ≡ Both c (cancel_released names (CancelHeld n)) call cancel
  cancel-comes c n call cancel f xs apart not_in not_held held e =
      ap (λ ys. ys ++ xs)
      (at-one names n (cancel ∷ []) f apart
      (λ name. held name ∙ ap (λ t. only_if t call ++ only_if (is_same_name n name) cancel) (not_held name)
      ∙ only-is-if (is_same_name n name) cancel))
      ∙ ap (λ ys. (if is_one_of n names then cancel ∷ [] else []) ++ ys)
      (e ∙ ap (λ t. only_if t call ++ []) not_in)
      ∙ in-hand (is_one_of n names)
      ∙ ap (λ t. only_if t call ++ only_if (cancel_in_hand (cancel_released names (CancelHeld n))) cancel) (sym not_in)
    where
      in-hand : (t : Bool)
          → (if t then cancel ∷ [] else []) ++ []
          ≡ only_if (cancel_in_hand (if t then CancelInHand else CancelHeld n)) cancel
      in-hand true = refl
      in-hand false = refl

  none-come : (c : CallPlace) (k : CancelPlace) (call cancel : Held) (f : Name → List Held) (xs : List Held)
      → ((name : Name) → is_held_at c name ≡ false) → ((name : Name) → cancel_held_at k name ≡ false)
      → HeldSo c k call cancel f → xs ≡ Both c k call cancel → flat_map f names ++ xs ≡ Both c k call cancel
  none-come c k call cancel f xs no_call no_cancel held e =
      ap (λ ys. ys ++ xs)
      (none-of-all f names
      (λ name. held name ∙ ap (λ t. only_if t call ++ only_if (cancel_held_at k name) cancel) (no_call name)
      ∙ ap (λ t. only_if t cancel) (no_cancel name)))
      ∙ e

  -- both are in hand, in order, that were held for one of the names
  both-come : (c : CallPlace) (k : CancelPlace) (call cancel : Held) (f : Name → List Held) (xs : List Held)
      → AreApart names → may_follow k c ≡ true → HeldSo c k call cancel f → xs ≡ Both c k call cancel
      → flat_map f names ++ xs ≡ Both (call_released names c) (cancel_released names k) call cancel
  both-come (IsHeld m) (CancelHeld n) call cancel f xs apart pair held e =
      ap (λ ys. flat_map f names ++ ys) e ∙ append-nil (flat_map f names)
      ∙ two-come m n call cancel f apart (same-name-is n m pair) held
  both-come (IsHeld m) k call cancel f xs apart pair held e =
      call-comes m k call cancel f xs apart (λ name. refl) held e
  both-come (SentByPlace h) (CancelHeld n) call cancel f xs apart pair held e =
      cancel-comes (SentByPlace h) n call cancel f xs apart refl (λ name. refl) held e
  both-come (SentByRange h) (CancelHeld n) call cancel f xs apart pair held e =
      cancel-comes (SentByRange h) n call cancel f xs apart refl (λ name. refl) held e
  both-come (Waits m) (CancelHeld n) call cancel f xs apart pair held e =
      cancel-comes (Waits m) n call cancel f xs apart refl (λ name. refl) held e
  both-come c (CancelHeld n) call cancel f xs apart pair held e = absurd (false≢true pair)
  both-come c k call cancel f xs apart pair held e =
      none-come c k call cancel f xs (λ name. refl) (λ name. refl) held e

  -- and the one may still follow the other
  follows-still : (k : CancelPlace) (c : CallPlace) → may_follow k c ≡ true
      → may_follow (cancel_released names k) (call_released names c) ≡ true
  follows-still (CancelHeld n) (IsHeld m) h =
      subst (λ z. may_follow (cancel_released names (CancelHeld n)) (call_released names (IsHeld z)) ≡ true)
      (same-name-is n m h) (by-test (is_one_of n names))
    where
      by-test : (t : Bool)
          → may_follow (if t then CancelInHand else CancelHeld n) (if t then IsInHand else IsHeld n) ≡ true
      by-test true = refl
      by-test false = same-name n n refl
  follows-still NoCancel c h = refl
  follows-still ToLeader (IsHeld m) h = by-test (is_one_of m names)
    where
      by-test : (t : Bool) → may_follow ToLeader (if t then IsInHand else IsHeld m) ≡ true
      by-test true = refl
      by-test false = refl
  follows-still CancelInHand (IsHeld m) h = by-test (is_one_of m names)
    where
      by-test : (t : Bool) → may_follow CancelInHand (if t then IsInHand else IsHeld m) ≡ true
      by-test true = refl
      by-test false = refl
  follows-still (SentTo to) (IsHeld m) h = absurd (false≢true h)
  follows-still (CancelHeld n) (SentByPlace g) h = by-test (is_one_of n names)
    where
      by-test : (t : Bool) → may_follow (if t then CancelInHand else CancelHeld n) (SentByPlace g) ≡ true
      by-test true = refl
      by-test false = refl
  follows-still (CancelHeld n) (SentByRange g) h = by-test (is_one_of n names)
    where
      by-test : (t : Bool) → may_follow (if t then CancelInHand else CancelHeld n) (SentByRange g) ≡ true
      by-test true = refl
      by-test false = refl
  follows-still (CancelHeld n) (Waits g) h = by-test (is_one_of n names)
    where
      by-test : (t : Bool) → may_follow (if t then CancelInHand else CancelHeld n) (Waits g) ≡ true
      by-test true = refl
      by-test false = refl
  follows-still (CancelHeld n) c h = absurd (false≢true h)
  follows-still k c h = h

  none-still : (k : CancelPlace) → k ≡ NoCancel → cancel_released names k ≡ NoCancel
  none-still k e = ap (cancel_released names) e

  none-was : (k : CancelPlace) → cancel_released names k ≡ NoCancel → k ≡ NoCancel
  none-was (CancelHeld n) e = absurd (by-test (is_one_of n names) e)
    where
      by-test : (t : Bool) → (if t then CancelInHand else CancelHeld n) ≡ NoCancel → ⊥
      by-test true h = cc
      by-test false h = cc
  none-was NoCancel e = e
  none-was ToLeader e = e
  none-was (SentTo to) e = e
  none-was CancelInHand e = e

  -- ---- what holds of it

  -- what is seen of the call and its withdrawals then
  abbrev pub released_cancel : CancelSight → CancelSight
  released_cancel x =
      record x {
        call = call_released names x.call;
        cancel = cancel_released names x.cancel;
        held_cancels = λ name. if is_one_of name names then [] else x.held_cancels name;
        hand_cancels = flat_map x.held_cancels names ++ x.hand_cancels;
        held_of_call = λ name. if is_one_of name names then [] else x.held_of_call name;
        hand_of_call = flat_map x.held_of_call names ++ x.hand_of_call;
      }

  module _ (p : ℕ) (owed : Bool) (x : CancelSight) (apart : AreApart names) where
    abbrev y : CancelSight
    y = released_cancel x

    follows : (call cancel : Asked) → may_follow x.cancel x.call ≡ true → FollowsItsCall p x call cancel
        → FollowsItsCall p y call cancel
    follows call cancel pair h =
        record {
          in_streams = λ to sender. h.in_streams to sender
              ∙ ap (λ fs. fs ++ only_if (cancel_in_stream x.cancel p to sender) (frames.Cancel cancel))
              (in-stream-still names x.call p to sender call)
              ∙ ap (λ t.
              only_if (is_in_stream y.call p to sender) (frame_at y.call call) ++ only_if t (frames.Cancel cancel))
              (cancel-stream-still x.cancel p to sender);
          held_for_names = λ name.
              both-held-still x.call x.cancel name (Request call) (Request cancel) (x.held_of_call name)
              (h.held_for_names name);
          in_hand = both-come x.call x.cancel (Request call) (Request cancel) x.held_of_call x.hand_of_call apart pair
              h.held_for_names h.in_hand;
        }

    same-place-unless-held : (c : CallPlace) (node : ℕ) → c ≡ SentByRange node
        → call_released names c ≡ SentByRange node
    same-place-unless-held c node e = ap (call_released names) e

    may-wait : (call : Call) (name : Name) → CallMayWait p owed x call name → CallMayWait p owed y call name
    may-wait call name h =
        record {
          follows = follows (asked_as x call) (asked_as x (calls.Withdraw name)) h.pair h.follows;
          pair = follows-still x.cancel x.call h.pair;
          noted = λ some. h.noted (λ none. some (none-still x.cancel none));
          struck = λ some. h.struck (λ none. some (none-still x.cancel none));
          nowhere = λ noted none.
              let l : LeadsNowhere x name = h.nowhere noted (none-was x.cancel none)
              in record {
                node = l.node;
                is = same-place-unless-held x.call l.node l.is;
                leaves = l.leaves;
                unknown = l.unknown;
              };
          interrupted = h.interrupted;
        }

    interrupted-still : (call : Call) (name : Name) (waits replied : Bool)
        → MayBeInterrupted p owed x call name waits replied → MayBeInterrupted p owed y call name waits replied
    interrupted-still call name true false h = may-wait call name h
    interrupted-still call name true true h = none-still x.cancel h
    interrupted-still call name false replied h = none-still x.cancel h

    of-call-still : (place : CallPlace) (o : Option Call) → OfCall p owed x place o
        → OfCall p owed y (call_released names place) o
    of-call-still place None h = none-still x.cancel h
    of-call-still Parked (Some call) h = (
      none-still x.cancel h.0,
      record { unnoted = (h.1).unnoted; undoomed = (h.1).undoomed },
    )
    of-call-still (IsHeld m) (Some call) h = by-test (is_one_of m names)
      where
        by-test : (t : Bool) → OfCall p owed y (if t then IsInHand else IsHeld m) (Some call)
        by-test true =
            interrupted-still call (waits_at x.pid call) (may_park call && is_object (waits_at x.pid call)) false h
        by-test false =
            interrupted-still call (waits_at x.pid call) (may_park call && is_object (waits_at x.pid call)) false h
    of-call-still place (Some call) h =
        interrupted-still call (waits_at x.pid call) (may_park call && is_object (waits_at x.pid call))
        (has_reply place) h

    tickets : KnowsTickets x y
    tickets = record { pid = refl; later = same-later x.caller x.caller refl }

    held-items : (name : Name) → AllByRecursion (IsCancelItem x) (x.held_cancels name)
        → AllByRecursion (IsCancelItem y) (y.held_cancels name)
    held-items name all = by-test (is_one_of name names)
      where
        by-test : (t : Bool) → AllByRecursion (IsCancelItem y) (if t then [] else x.held_cancels name)
        by-test true = tt
        by-test false = items-of x y tickets (x.held_cancels name) all

  pub holds-released : (p : ℕ) (owes : Owing) (x : CancelSight) → AreApart names → CancelHolds p owes x
      → CancelHolds p owes (released_cancel x)
  holds-released p owes x apart h =
      let owed : Bool = is_owed owes p
      in let y : CancelSight = released_cancel x
      in record {
        of_call = of-call-still p owed x apart x.call x.caller.under_way h.of_call;
        frames = λ to sender. frames-of x y (tickets p owed x apart) (x.cancels to sender) (h.frames to sender);
        held = λ name. held-items p owed x apart name (h.held name);
        hand = items-of x y (tickets p owed x apart) (flat_map x.held_cancels names ++ x.hand_cancels)
            (all-both (IsCancelItem x) (flat_map x.held_cancels names) x.hand_cancels
            (all-flat (IsCancelItem x) x.held_cancels names h.held) h.hand);
        owed = h.owed;
      }

  -- All holds of the withdrawals of a call that may have been held for one of the names.
  pub cancel-comes-home : (p : ℕ) (owes : Owing) (x : CancelSight) → AreApart names → CancelIf p owes x
      → CancelIf p owes (released_cancel x)
  cancel-comes-home p Nothing x apart h = holds-released p Nothing x apart h
  cancel-comes-home p (AStrike node) x apart h = holds-released p (AStrike node) x apart h
  cancel-comes-home p Wakes x apart h = tt

-- a call that comes into the hand may still be made
pub marks-released : (names : List Name) (place : CallPlace) (o : Option Call) (a : Alive) → HasMarks place o a
    → HasMarks (call_released names place) o a
marks-released names (IsHeld m) o a h = by-test (is_one_of m names)
  where
    by-test : (t : Bool) → HasMarks (if t then IsInHand else IsHeld m) o a
    by-test true = marks-go-on (IsHeld m) IsInHand o a refl refl h
    by-test false = h
marks-released names place o a h = h
