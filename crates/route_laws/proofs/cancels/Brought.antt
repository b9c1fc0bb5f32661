-- The leader takes a withdrawal from its caller's node: it is in its hand then.
use Rattle.std.proofs.Common.{Bool, List, [], ap, append-nil, arith, cond, false, filter, if◌then◌else◌, nat_eq, refl, subst, sym, true, ℕ, ◌&&◌, ◌++◌, ◌∙◌, ◌∷◌, ◌≡◌, ◌≢◌, ◌≤◌}
use Rattle.std.proofs.lemmas.Bool.{eq-eqb, false≢true, ne_eqb}
use Rattle.std.specs.List.{AllByRecursion}
use Rattle.pico_base.specs.declared.numbers.Name.{Name}
use Rattle.pico_base.specs.declared.script.Script.{Script}
use Rattle.rpc_frame.specs.declared.asked.Asked.{Asked}
use Rattle.rpc_frame.specs.declared.frame.Frame.TheVariants as frames
use Rattle.rpc_frame.specs.declared.frame.Frame.{Frame}
use Rattle.waiting_model.specs.Calls.{is_withdrawal}
use Rattle.node_model.specs.Directory.{held_for, is_known, place_of, stays}
use Rattle.node_model.specs.declared.held.Held.TheVariants.{Request}
use Rattle.node_model.specs.declared.held.Held.{Held}
use Rattle.world_model.specs.Node.{Node}
use Rattle.world_model.specs.World.{World, node_count}
use Rattle.rule_laws.proofs.CallMoves.{cancel-if-same}
use Rattle.world_laws.proofs.CancelMoves.{CancelTravels}
use Rattle.world_laws.proofs.Changes.{Changes, frames_if, read-same}
use Rattle.world_laws.proofs.Heads.{head-from-another, head-is}
use Rattle.world_laws.proofs.LeftAlone.{DirectoryLeaves, same-directory}
use Rattle.world_laws.proofs.Sends.{frame_if}
use Rattle.world_laws.proofs.Stays.{IsMore, name-stays}
use Rattle.world_laws.proofs.Steps.{Heads}
use Rattle.world_laws.proofs.Wholes.{whole-left-alone}
use Rattle.world_laws.specs.Callers.{is_in_stream, only_if}
use Rattle.world_laws.specs.Cancels.{CancelHolds, IsCancelFrame, IsCancelOf, LeadsNowhere, Nothing, Owing, cancel_sight, is_cancel_of, may_follow}
use Rattle.world_laws.specs.Families.{NodeHolds}
use Rattle.world_laws.specs.Invariant.{HoldsOwing}
use Rattle.world_laws.specs.Names.{NameHolds, name_sight}
use Rattle.world_laws.specs.Places.{Beside, CallPlace, CancelInHand, InAsk, IsHeld, IsInHand, NoCancel, SentByPlace, SentByRange, ToLeader, Waits, cancel_in}
use Rattle.world_laws.specs.Sights.{directory_of, frames_to, is_born_in, node_of}
use Rattle.route_laws.proofs.cancels.Current.{from_caller}
use Rattle.route_laws.proofs.cancels.Going.{HasGone, goes}
use Rattle.route_laws.proofs.cancels.Interrupts.{nothing-sent-by}
use Rattle.route_laws.proofs.cancels.NameMoves.{DirectoryLeavesBut, name-passed-by}
use Rattle.route_laws.proofs.cancels.Travels.{DirectoryStays, HoldsStill, NodeStays, travel-born, travel-keeps}

-- the call isn't in front of it any more
behind-the-ask : (p : ℕ) (place : CallPlace) → may_follow ToLeader place ≡ true → is_in_stream place p 1 p ≡ false
    → may_follow CancelInHand place ≡ true
behind-the-ask p InAsk follows away = absurd (false≢true (sym away ∙ both (nat_eq p p) (eq-eqb p p refl)))
  where
    both : (t : Bool) → t ≡ true → (nat_eq 1 1 && t) ≡ true
    both true e = refl
    both false e = e
behind-the-ask p IsInHand follows away = refl
behind-the-ask p (SentByPlace h) follows away = refl
behind-the-ask p (SentByRange h) follows away = refl
behind-the-ask p (IsHeld name) follows away = refl
behind-the-ask p (Waits name) follows away = refl
behind-the-ask p place follows away = absurd (false≢true follows)

somewhere : CancelInHand ≡ NoCancel → ⊥
somewhere e = cc

-- a withdrawal that is first in a stream is one of its caller
pub first-of-caller : (w : World) (b : Beside) (hand : List Held) (p : ℕ) (owes : Owing) (at sender : ℕ)
    (cancel : Asked) (rest : List Frame) → cancel.caller ≡ p → CancelHolds p owes (cancel_sight w hand b p)
    → frames_to w at sender ≡ frames.Cancel cancel ∷ rest → IsCancelOf (cancel_sight w hand b p) cancel
first-of-caller w b hand p owes at sender cancel rest of_p h front =
    let all : AllByRecursion (IsCancelFrame (cancel_sight w hand b p))
    (frames.Cancel cancel ∷ filter (is_cancel_of p) rest) =
    subst (λ fs. AllByRecursion (IsCancelFrame (cancel_sight w hand b p)) fs)
    (ap (filter (is_cancel_of p)) front
    ∙ ap (λ t. cond t (frames.Cancel cancel ∷ filter (is_cancel_of p) rest) (filter (is_cancel_of p) rest))
    (eq-eqb cancel.caller p of_p))
    (h.frames at sender)
    in all.0

module _ (script : Script) (w w' : World) (b : Beside) (holds : HoldsOwing script w [] Nothing b) (q : ℕ)
    (cancel : Asked) (rest : List Frame) (h : Heads script w 1 q (frames.Cancel cancel) rest)
    (of_q : cancel.caller ≡ q) (is_cancel : is_withdrawal cancel.call ≡ true)
    (c : Changes script 1 w w' (node_of w 1) ((q, frames.Cancel cancel) ∷ []) [] []) where
  abbrev takes : List (ℕ × Frame)
  takes = (q, frames.Cancel cancel) ∷ []

  abbrev hand' : List Held
  hand' = Request cancel ∷ []

  high-one : 1 ≤ node_count script
  high-one = let low = h.low_from in let high = h.high_from in omega (arith, low, high)

  other : q ≢ 1
  other = head-from-another script w 1 q (frames.Cancel cancel) rest h (is_born_in w) holds.frames_fit

  front : frames_to w 1 q ≡ frames.Cancel cancel ∷ rest
  front = head-is script w 1 q (frames.Cancel cancel) rest h

  read : {T : Type 0} (f : Node → T) (y : ℕ) → f (node_of w' y) ≡ f (node_of w y)
  read f y = read-same script 1 w w' (node_of w 1) takes [] [] c f refl y

  directory-is : directory_of w' ≡ directory_of w
  directory-is = read (λ (m : Node). m.leader.directory) 1

  taken-once : (t s : Bool) → frames_if t (frame_if s (frames.Cancel cancel) ++ []) ≡ only_if (t && s)
      (frames.Cancel cancel)
  taken-once true true = refl
  taken-once true false = refl
  taken-once false true = refl
  taken-once false false = refl

  travels : CancelTravels q ToLeader CancelInHand cancel w w' [] hand'
  travels =
      record {
        streams = λ at sender. record {
          left = c.left at sender;
          taken = c.before at sender
              ∙ ap (λ fs. fs ++ c.left at sender) (taken-once (nat_eq at 1) (nat_eq sender q));
          put = c.after at sender ∙ ap (λ fs. c.left at sender ++ fs) (nothing-sent-by (nat_eq sender 1));
        };
        lists = λ m. record {
          left = held_for (directory_of w) m;
          taken = refl;
          put = ap (λ d. held_for d m) directory-is ∙ sym (append-nil (held_for (directory_of w) m));
        };
        hands = record { left = []; taken = refl; put = refl };
      }

  nowhere-still : (m : Name) → LeadsNowhere (cancel_sight w [] b q) m → LeadsNowhere (cancel_sight w' hand' b q) m
  nowhere-still m l =
      record {
        node = l.node;
        is = l.is;
        leaves = ap (λ d. stays d l.node) directory-is ∙ l.leaves;
        unknown = ap (λ d. is_known d m) directory-is ∙ l.unknown;
      }

  all-said : CancelHolds q Nothing (cancel_sight w [] b q)
  all-said = holds.cancels q h.low_from h.high_from

  gone : HasGone q Nothing w' hand' b
  gone =
      goes q Nothing w w' [] hand' b cancel ToLeader CancelInHand travels of_q is_cancel (from_caller rest other front)
      all-said (first-of-caller w b [] q Nothing 1 q cancel rest of_q all-said front)
      (read (λ (m : Node). m.number) q) (read (λ (m : Node). m.pid) q) (read (λ (m : Node). m.caller) q) nowhere-still
      (λ call under_way waits unanswered cur. record {
        pair = behind-the-ask q (b.call q) cur.pair cur.alone;
        nowhere = λ none. absurd (somewhere none);
      })

  abbrev after : Beside
  after = record b { cancel = cancel_in b.cancel q gone.cancel }

  first : NodeHolds script b.pids (is_born_in w) 1 (node_of w 1)
  first = holds.nodes 1 (omega arith) high-one

  node-stays : NodeStays script w b 1 q (node_of w 1)
  node-stays =
      record {
        number = refl;
        pid = refl;
        stage = refl;
        leases = refl;
        noted = (node_of w 1).caller.noted;
        caller = refl;
        unnoted = λ other. refl;
        queue_keys = refl;
        set_keys = refl;
        holds = first;
      }

  directory-stays : DirectoryStays (directory_of w) (directory_of w')
  directory-stays =
      subst (λ d. DirectoryStays (directory_of w) d) (sym directory-is)
      (record {
        partings_are = λ y. refl;
        known_are = λ m. refl;
        ranges_are = λ kind. refl;
        leads = holds.leading;
      })

  other-cancels : (y : ℕ) → y ≢ q → cancel_in b.cancel q gone.cancel y ≡ b.cancel y
  other-cancels y d = ap (λ u. if u then gone.cancel else b.cancel y) (ne_eqb q y (λ e. d (sym e)))

  born-still : IsMore (is_born_in w) (is_born_in w')
  born-still =
      travel-born script w w' [] hand' Nothing Nothing b (cancel_in b.cancel q gone.cancel) 1 (node_of w 1) takes []
      cancel q of_q ToLeader CancelInHand (omega arith) high-one holds c travels is_cancel node-stays directory-stays
      (refl, tt) tt tt tt other-cancels (λ y d same. cancel-if-same y Nothing _ _ refl same)
      (λ l. whole-left-alone w w' b after Nothing l)

  leaves-but : (m : Name) → DirectoryLeavesBut (directory_of w) (directory_of w') m
  leaves-but m =
      let l : DirectoryLeaves (directory_of w) (directory_of w') m =
      same-directory (directory_of w) (directory_of w') directory-is m
      in record { maker_is = l.maker_is; stays_is = l.stays_is; kept_is = l.kept_is }

  names : (m : Name) → NameHolds script b.pids (is_born_in w') m (name_sight script w' hand' after m)
  names m =
      name-stays script b.pids (is_born_in w) (is_born_in w') m (name_sight script w [] b m)
      (name_sight script w' hand' after m) born-still
      (name-passed-by script 1 w w' (node_of w 1) takes [] [] c
      (record { taken = (refl, tt); from_others = (other, tt); sent = tt; by_another = tt }) [] hand' b after m
      (place_of (directory_of w) m) (ap (λ d. place_of d m) directory-is) (leaves-but m) refl refl refl refl refl refl
      refl refl) (holds.names m)

  -- All holds with it in hand.
  pub brought : HoldsStill script w' hand' Nothing b
  brought =
      record {
        cancels = cancel_in b.cancel q gone.cancel;
        holds = travel-keeps script w w' [] hand' Nothing Nothing b (cancel_in b.cancel q gone.cancel) 1 (node_of w 1)
            takes [] cancel q of_q ToLeader CancelInHand (omega arith) high-one holds c travels is_cancel node-stays
            directory-stays (refl, tt) tt tt tt other-cancels
            (λ y d same. cancel-if-same y Nothing _ _ refl same) (λ l. whole-left-alone w w' b after Nothing l)
            h.low_from h.high_from gone.holds names;
      }
