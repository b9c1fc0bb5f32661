-- What the leader knows it still knows after each part of its step.
use Rattle.std.proofs.Common.{◌≡◌, ℕ, Bool, true, false, not, if◌then◌else◌, List, [], ◌∷◌, nat_eq, is_none, Option, Some, None, option_map, refl, ap, subst, ◌∙◌, inl, inr}
use Rattle.pico_base.specs.declared.call.Call.{Call}
use Rattle.pico_base.specs.declared.numbers.Kind.{Kind}
use Rattle.pico_base.specs.declared.numbers.Name.{Name}
use Rattle.pico_base.specs.declared.reply.Reply.{Reply}
use Rattle.pico_base.specs.declared.script.Script.{Script}
use Rattle.rpc_frame.specs.declared.asked.Asked.{Asked}
use Rattle.rpc_frame.specs.declared.frame.Frame.TheVariants as frames
use Rattle.waiting_model.specs.declared.callers.Wake.{Wake}
use Rattle.kernel_laws.proofs.Plain.{from_some, not_some}
use Rattle.node_model.specs.Bodies.{Body}
use Rattle.node_model.specs.Directory.{Directory, Place, At, is_known, place_name, stays, upcoming, with_place}
use Rattle.node_model.specs.Kinds.{for_kind, get_named, put_all, with_kind}
use Rattle.node_model.specs.Leases.{lease_of}
use Rattle.node_model.specs.Serving.{Served, serve, waiting_as}
use Rattle.node_model.specs.Entries.{outcome_with}
use Rattle.node_model.specs.Watches.{last_move, with_reads}
use Rattle.world_model.specs.Node.{Node, is_leader, under_way_as}
use Rattle.world_model.specs.Numbers.{Taken, take_first, take_from, take_from_next, take_number, with_next_range}
use Rattle.world_model.specs.Serving.{grant, grant_held, has_room, is_struck, move_to, note_reads, serve_asked, serve_asked_with}
use Rattle.world_model.specs.Step.{Step, carry_out, carry_out_waking, enter, enter_with, reply_at, reply_here, reply_to, send, wake_all, wake_one, with_deeds, with_node, with_strike}
use Rattle.world_laws.proofs.Named.{name-cases}
use Rattle.rule_laws.proofs.Places.{place-with-other, place-with-same}
use Rattle.route_laws.proofs.release.RoutedParcels.{directory_in}
use Rattle.weight_laws.proofs.Parts.{passed}

-- each known name is known
abbrev pub KnowsMore : Directory → Directory → Type 0
KnowsMore d d' = (m : Name) → is_known d m ≡ true → is_known d' m ≡ true

-- one after another
pub knows-after : (d e f : Directory) → KnowsMore d e → KnowsMore e f → KnowsMore d f
knows-after d e f first second m h = second m (first m h)

-- a name has a place
pub knows-with : (d : Directory) (name : Name) (place : Place) → KnowsMore d (with_place d name place)
knows-with d name place m h =
    elim (name-cases m name) [
      | inl e ↦
          ap (λ y. is_known (with_place d name place) y) e ∙ ap (λ o. not (is_none o)) (place-with-same d name place)
      | inr other ↦ ap (λ o. not (is_none o)) (place-with-other d name place m other) ∙ h
    ]

-- or has one if it wasn't known
pub knows-placed : (d : Directory) (name : Name) (node : ℕ) → KnowsMore d (place_name d name node)
knows-placed d name node = by-test (is_known d name)
  where
    by-test : (t : Bool) → KnowsMore d (if t then d else with_place d name (At node))
    by-test true = λ m h. h
    by-test false = knows-with d name (At node)

-- ---- a call is carried out

-- the directory stays
abbrev SameDirectory : Step → Step → Type 0
SameDirectory s t = directory_in t ≡ directory_in s

here-leader : (script : Script) (s : Step) (reply : Reply) (o : Option Call)
    → SameDirectory s (reply_here script s reply o)
here-leader script s reply None = refl
here-leader script s reply (Some call) = refl

reply-leader : (script : Script) (s : Step) (caller ticket : ℕ) (reply : Reply)
    → SameDirectory s (reply_at script s caller ticket reply)
reply-leader script s caller ticket reply = let n : Node = s.node in by-test (nat_eq caller n.number)
  where
    by-test : (t : Bool)
        → SameDirectory s (if t then reply_here script s reply (under_way_as s.node ticket)
        else send s caller (frames.Answer ticket reply))
    by-test true = here-leader script s reply (under_way_as s.node ticket)
    by-test false = refl

wakes-leader : (script : Script) (s : Step) (wakes : List Wake) → SameDirectory s (wake_all script s wakes)
wakes-leader script s [] = refl
wakes-leader script s (w ∷ wakes) =
    wakes-leader script (wake_one script s w) wakes ∙ reply-leader script s w.caller w.ticket w.reply

-- the directory is as it was, whoever is woken
pub waking-directory : (script : Script) (s : Step) (asked : Asked) (own : Option Reply) (wakes : List Wake)
    → directory_in (carry_out_waking script s asked own wakes) ≡ directory_in s
waking-directory script s asked None wakes =
    wakes-leader script (enter_with s asked.pid asked.call (outcome_with None wakes)) wakes
waking-directory script s asked (Some reply) wakes =
    let entered : Step = enter_with s asked.pid asked.call (outcome_with (Some reply) wakes)
    in wakes-leader script (reply_to script entered asked reply) wakes
    ∙ reply-leader script entered asked.caller asked.ticket reply

-- so it is where nobody is
pub carried-directory : (script : Script) (s : Step) (asked : Asked) (reply : Reply)
    → directory_in (carry_out script s asked reply) ≡ directory_in s
carried-directory script s asked reply =
    reply-leader script (enter s asked.pid asked.call reply) asked.caller asked.ticket reply

-- so it knows as much
pub carried-knows : (script : Script) (s : Step) (asked : Asked) (reply : Reply)
    → KnowsMore (directory_in s) (directory_in (carry_out script s asked reply))
carried-knows script s asked reply m h =
    ap (λ (d : Directory). is_known d m) (carried-directory script s asked reply) ∙ h

-- ---- a name moves

granted-knows : (s : Step) (name : Name) (to : ℕ) (o : Option Body)
    → KnowsMore (directory_in s) (directory_in (grant_held s name to o))
granted-knows s name to None = λ m h. h
granted-knows s name to (Some body) = knows-with (directory_in s) name (At to)

stay-knows : (s : Step) (name : Name) (to : ℕ) (t : Bool)
    → KnowsMore (directory_in s) (directory_in (if t then grant s name to else s))
stay-knows s name to true = let n : Node = s.node in granted-knows s name to (get_named n.deeds name)
stay-knows s name to false = λ m h. h

move-knows : (s : Step) (name : Name) (to : ℕ) (t : Bool)
    → KnowsMore (directory_in s) (directory_in (let n : Node = s.node in
    if t
    then if stays n.leader.directory to then grant s name to else s
    else send s 1 (frames.Suggest name to)))
move-knows s name to true = let n : Node = s.node in stay-knows s name to (stays n.leader.directory to)
move-knows s name to false = λ m h. h

moved-knows : (s : Step) (name : Name) (o : Option ℕ) → KnowsMore (directory_in s) (directory_in (move_to s name o))
moved-knows s name None = λ m h. h
moved-knows s name (Some to) = let n : Node = s.node in move-knows s name to (is_leader n)

reads-know : (s : Step) (name : Name) (readers : List ℕ)
    → KnowsMore (directory_in s) (directory_in (note_reads s name readers))
reads-know s name readers =
    let n : Node = s.node
    in moved-knows (with_node s (record n { watches = with_reads n.watches n.number name readers })) name
    (last_move n.watches n.number name readers)

served-with-knows : (script : Script) (s : Step) (name : Name) (asked : Asked) (served : Served)
    → KnowsMore (directory_in s) (directory_in (serve_asked_with script s name asked served))
served-with-knows script s name asked served =
    let n : Node = s.node
    in let struck : Step = with_strike s (is_struck n name asked.call)
    in let changed : Step = with_deeds struck (put_all n.deeds served.changes)
    in let done : Step = carry_out_waking script changed asked served.own served.wakes
    in knows-after (directory_in s) (directory_in done) (directory_in (serve_asked_with script s name asked served))
    (λ m h. ap (λ (d : Directory). is_known d m)
    (waking-directory script changed asked served.own served.wakes) ∙ h)
    (reads-know done name served.readers)

-- A call is served.
pub served-knows : (script : Script) (s t : Step) (name : Name) (asked : Asked)
    → serve_asked script s name asked ≡ Some t → KnowsMore (directory_in s) (directory_in t)
served-knows script s t name asked h =
    let n : Node = s.node in by-room (has_room s name asked) (serve n.deeds (waiting_as asked)) h
  where
    by-served : (o : Option Served) → option_map (serve_asked_with script s name asked) o ≡ Some t
        → KnowsMore (directory_in s) (directory_in t)
    by-served None g = not_some t g
    by-served (Some served) g =
        subst (λ (x : Step). KnowsMore (directory_in s) (directory_in x)) (from_some _ _ g)
        (served-with-knows script s name asked served)

    by-room : (room : Bool) (o : Option Served)
        → (if room then option_map (serve_asked_with script s name asked) o else Some s) ≡ Some t
        → KnowsMore (directory_in s) (directory_in t)
    by-room true o g = by-served o g
    by-room false o g =
        subst (λ (x : Step). KnowsMore (directory_in s) (directory_in x)) (from_some s t g) (λ m there. there)

-- ---- a number is taken

abbrev TakenKnows : Node → Taken → Type 0
TakenKnows n t = let m : Node = t.node in KnowsMore n.leader.directory m.leader.directory

module _ (n : Node) (kind : Kind) where
  first-knows : (m : Node) (t : Taken) (numbers : List ℕ) → KnowsMore n.leader.directory m.leader.directory
      → take_first m kind numbers ≡ Some t → TakenKnows n t
  first-knows m t [] same h = not_some t h
  first-knows m t (number ∷ numbers) same h =
      let left : Taken = record { number = number; node = record m { leases = with_kind m.leases kind numbers } }
      in subst (TakenKnows n) (from_some left t h) same

  next-knows : (t : Taken) (numbers : List ℕ) → take_from n kind numbers ≡ Some t → TakenKnows n t
  next-knows t (number ∷ numbers) h = first-knows n t (number ∷ numbers) (λ m g. g) h
  next-knows t [] h =
      first-knows (with_next_range n kind) t (lease_of (upcoming n.leader.directory kind)) (λ m g. g)
      (passed _ _ t (passed (is_leader n) (take_from_next n kind) t h).1).1

  -- The names are known as before.
  pub taken-knows : (t : Taken) → take_number n kind ≡ Some t → TakenKnows n t
  taken-knows t h = next-knows t (for_kind n.leases kind) h
