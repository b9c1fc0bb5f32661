-- What steps that answer calls send, and what becomes of the node's own call.
use Rattle.std.proofs.Common.{◌≡◌, ℕ, Bool, true, false, if◌then◌else◌, List, [], ◌∷◌, ◌++◌, nat_eq, Option, Some, None, refl, ap, sym, ◌∙◌, append-nil, append_assoc}
use Rattle.std.specs.List.{AllByRecursion}
use Rattle.std.proofs.lemmas.Bool.{false≢true, or_parts, eq-eqb}
use Rattle.pico_base.specs.declared.call.Call.{Call}
use Rattle.pico_base.specs.declared.reply.Reply.{Reply}
use Rattle.pico_base.specs.declared.script.Script.{Script}
use Rattle.rpc_frame.specs.declared.frame.Frame.{Frame}
use Rattle.rpc_frame.specs.declared.frame.Frame.TheVariants as frames
use Rattle.world_model.specs.Node.{under_way_as}
use Rattle.world_model.specs.Step.{Step, reply_here, send}
use Rattle.world_model.specs.World.{node_count}
use Rattle.world_laws.specs.Callers.{is_about}
use Rattle.world_laws.specs.Cancels.{is_cancel_of}
use Rattle.world_laws.proofs.Cancels.{IsLater, answer-later, later-on, same-later}
use Rattle.world_laws.proofs.Sends.{AreToNodes, IsToNode}
use Rattle.route_laws.proofs.hand.HandMoves.{IsCallOf}
use Rattle.route_laws.proofs.served.AllTurns.{is_among}
use Rattle.route_laws.proofs.served.Replies.{no-cancel-sends, of-no-other, sends_by}
use Rattle.route_laws.proofs.served.Rounds.{Answered}
use Rattle.route_laws.proofs.served.Steps.{StaysStep, answer_all, answer_one, reply-stays}
use Rattle.route_laws.proofs.served.Turns.{sends-to-nodes}
use Rattle.route_laws.proofs.served.Woken.{asked_from}

-- ---- the frames

-- an Answer to each whose call isn't the node's own
abbrev pub turn_sends : ℕ → List Answered → List (ℕ × Frame)
turn_sends p [] = []
turn_sends p (a ∷ more) = sends_by (nat_eq a.who.caller p) (asked_from a.who) a.reply ++ turn_sends p more

reply-here-sends : (script : Script) (m : Step) (reply : Reply) (o : Option Call)
    → (let t : Step = reply_here script m reply o in t.sends) ≡ m.sends ++ []
reply-here-sends script m reply None = sym (append-nil m.sends)
reply-here-sends script m reply (Some call) = sym (append-nil m.sends)

one-sends : (script : Script) (m : Step) (a : Answered)
    → (let t : Step = answer_one script m a in t.sends)
    ≡ m.sends ++ sends_by (nat_eq a.who.caller m.node.number) (asked_from a.who) a.reply
one-sends script m a = by (nat_eq a.who.caller m.node.number)
  where
    by : (t : Bool)
        → (let u : Step = (if t then reply_here script m a.reply (under_way_as m.node a.who.ticket)
        else send m a.who.caller (frames.Answer a.who.ticket a.reply)) in u.sends)
        ≡ m.sends ++ sends_by t (asked_from a.who) a.reply
    by true = reply-here-sends script m a.reply (under_way_as m.node a.who.ticket)
    by false = refl

-- behind what was sent before, a frame goes to each other node whose call has its reply, in their order
pub all-sends : (script : Script) (m : Step) (all : List Answered)
    → (let t : Step = answer_all script m all in t.sends) ≡ m.sends ++ turn_sends m.node.number all
all-sends script m [] = sym (append-nil m.sends)
all-sends script m (a ∷ more) =
    let one : Step = answer_one script m a
    in let stays : StaysStep m one = reply-stays script m a.who.caller a.who.ticket a.reply
    in all-sends script one more
    ∙ ap (λ n. one.sends ++ turn_sends n more) stays.number
    ∙ ap (λ fs. fs ++ turn_sends m.node.number more) (one-sends script m a)
    ∙ append_assoc m.sends (sends_by (nat_eq a.who.caller m.node.number) (asked_from a.who) a.reply)
    (turn_sends m.node.number more)

all-both : {A : Type 0} (P : A → Type 0) (xs ys : List A) → AllByRecursion P xs → AllByRecursion P ys
    → AllByRecursion P (xs ++ ys)
all-both P [] ys first second = second
all-both P (x ∷ xs) ys first second = (first.0, all-both P xs ys first.1 second)

-- they are about no other calls,
pub sends-of-no-other : (p y : ℕ) (all : List Answered) → is_among y all ≡ false
    → AllByRecursion (λ s. is_about y s.0 p s.1 ≡ false) (turn_sends p all)
sends-of-no-other p y [] h = tt
sends-of-no-other p y (a ∷ more) h =
    let parts = or_parts (nat_eq a.who.caller y) (is_among y more) h
    in all-both (λ s. is_about y s.0 p s.1 ≡ false) (sends_by (nat_eq a.who.caller p) (asked_from a.who) a.reply)
    (turn_sends p more)
    (of-no-other (nat_eq a.who.caller p) (asked_from a.who) a.reply p y
    (λ e. false≢true (sym parts.0 ∙ eq-eqb a.who.caller y (sym e))))
    (sends-of-no-other p y more parts.1)

-- no withdrawals,
pub sends-no-cancel : (p y : ℕ) (all : List Answered)
    → AllByRecursion (λ s. is_cancel_of y s.1 ≡ false) (turn_sends p all)
sends-no-cancel p y [] = tt
sends-no-cancel p y (a ∷ more) =
    all-both (λ s. is_cancel_of y s.1 ≡ false) (sends_by (nat_eq a.who.caller p) (asked_from a.who) a.reply)
    (turn_sends p more) (no-cancel-sends (nat_eq a.who.caller p) (asked_from a.who) a.reply y)
    (sends-no-cancel p y more)

-- and to nodes of the script
pub all-to-nodes : (script : Script) (p : ℕ) (all : List Answered)
    → AllByRecursion (λ a. IsCallOf script (asked_from a.who)) all → AreToNodes (node_count script) (turn_sends p all)
all-to-nodes script p [] asks = tt
all-to-nodes script p (a ∷ more) asks =
    all-both (IsToNode (node_count script)) (sends_by (nat_eq a.who.caller p) (asked_from a.who) a.reply)
    (turn_sends p more) (sends-to-nodes script (nat_eq a.who.caller p) (asked_from a.who) a.reply asks.0)
    (all-to-nodes script p more asks.1)

-- ---- the node's own call

reply-here-later : (script : Script) (m : Step) (reply : Reply) (o : Option Call)
    → IsLater m.node.caller (let t : Step = reply_here script m reply o in t.node.caller)
reply-here-later script m reply None = same-later m.node.caller m.node.caller refl
reply-here-later script m reply (Some call) = answer-later script m.node.number m.node.caller call reply

one-later : (script : Script) (m : Step) (a : Answered)
    → IsLater m.node.caller (let t : Step = answer_one script m a in t.node.caller)
one-later script m a = by (nat_eq a.who.caller m.node.number)
  where
    by : (t : Bool)
        → IsLater m.node.caller (let u : Step = (if t
        then reply_here script m a.reply (under_way_as m.node a.who.ticket)
        else send m a.who.caller (frames.Answer a.who.ticket a.reply)) in u.node.caller)
    by true = reply-here-later script m a.reply (under_way_as m.node a.who.ticket)
    by false = same-later m.node.caller m.node.caller refl

-- no other is started
pub all-later : (script : Script) (m : Step) (all : List Answered)
    → IsLater m.node.caller (let t : Step = answer_all script m all in t.node.caller)
all-later script m [] = same-later m.node.caller m.node.caller refl
all-later script m (a ∷ more) =
    let one : Step = answer_one script m a
    in let last : Step = answer_all script one more
    in later-on m.node.caller one.node.caller last.node.caller (one-later script m a) (all-later script one more)

one-caller : (script : Script) (m : Step) (a : Answered) → nat_eq a.who.caller m.node.number ≡ false
    → (let t : Step = answer_one script m a in t.node.caller) ≡ m.node.caller
one-caller script m a other =
    ap (λ t. (let u : Step = (if t then reply_here script m a.reply (under_way_as m.node a.who.ticket)
    else send m a.who.caller (frames.Answer a.who.ticket a.reply)) in u.node.caller)) other

-- and it is as it was, where none of these is the node's
pub all-caller : (script : Script) (m : Step) (all : List Answered) → is_among m.node.number all ≡ false
    → (let t : Step = answer_all script m all in t.node.caller) ≡ m.node.caller
all-caller script m [] h = refl
all-caller script m (a ∷ more) h =
    let parts = or_parts (nat_eq a.who.caller m.node.number) (is_among m.node.number more) h
    in let one : Step = answer_one script m a
    in let stays : StaysStep m one = reply-stays script m a.who.caller a.who.ticket a.reply
    in all-caller script one more (ap (λ n. is_among n more) stays.number ∙ parts.1)
    ∙ one-caller script m a parts.0
