-- The directory is what each owner will hold once it has taken all that is on its way to it from the leader. So what is
-- on its way is played.
use Rattle.std.specs.Prelude.{ℕ, Bool, true, false, not, ◌&&◌, ◌||◌, nat_eq, List, [], ◌∷◌, Option, Some, None, if◌then◌else◌}
use Rattle.std.specs.List.{flat_map, filter}
use Rattle.std.specs.Option.{option_map_or}
use Rattle.pico_base.specs.declared.call.Home.{Home}
use Rattle.pico_base.specs.declared.call.Home.TheVariants as homes
use Rattle.pico_base.specs.declared.numbers.Name.{Name}
use Rattle.pico_base.specs.declared.numbers.Name.TheVariants.{Proc}
use Rattle.pico_base.specs.Home.{home_of}
use Rattle.rpc_frame.specs.declared.asked.Asked.{Asked}
use Rattle.rpc_frame.specs.declared.frame.Frame.{Frame}
use Rattle.rpc_frame.specs.declared.frame.Frame.TheVariants as frames
use Rattle.waiting_model.specs.Calls.{withdrawn_from}
use Rattle.node_model.specs.Kinds.{is_same_name, is_object}
use Rattle.node_model.specs.Carrying.{is_removal}
use Rattle.node_model.specs.Directory.{Place, At, Coming, has_deed_of}
use Rattle.world_model.specs.Node.{Stage, Left}
use Rattle.world_laws.specs.Places.{CallPlace, SentByPlace, SentByRange}

-- a node holds the name's deed, or it doesn't, or it holds nothing any more
pub data Hold : Type 0 where
  Has : Hold
  Lacks : Hold
  Done : Hold

-- what a frame from the leader does to it: the deed comes, it goes, all go, or it is needed
pub data PlayStep : Type 0 where
  Comes : PlayStep
  Goes : PlayStep
  AllGo : PlayStep
  IsNeeded : PlayStep

-- none where a frame doesn't find what it needs
abbrev pub play_step : Hold → PlayStep → Option Hold
play_step Lacks Comes = Some Has
play_step Has Comes = None
play_step Done Comes = None
play_step Has Goes = Some Lacks
play_step Lacks Goes = None
play_step Done Goes = None
play_step hold AllGo = Some Done
play_step Has IsNeeded = Some Has
play_step Lacks IsNeeded = None
play_step Done IsNeeded = None

abbrev pub play_on : List PlayStep → Option Hold → Option Hold
play_on [] hold = hold
play_on (s ∷ ss) None = None
play_on (s ∷ ss) (Some hold) = play_on ss (play_step hold s)

abbrev pub play : Hold → List PlayStep → Option Hold
play hold steps = play_on steps (Some hold)

-- ---- what a frame from the leader is for a name

abbrev pub steps_if : Bool → PlayStep → List PlayStep
steps_if true s = s ∷ []
steps_if false s = []

-- a call on the name, a removal or not
abbrev pub is_home_on : Name → Home → Bool
is_home_on name (homes.At other) = is_same_name name other
is_home_on name (homes.Removal other) = is_same_name name other
is_home_on name home = false

abbrev pub is_call_on : Name → Asked → Bool
is_call_on name asked = is_home_on name (home_of asked.pid asked.call)

-- A call that was sent by the name's place needs the deed. Where the name is used, so does a call on a queue or a set
-- but a removal that was sent by the range of the name's number: it never bounces, so that no withdrawal overtakes it.
abbrev pub is_lasting : Asked → Bool
is_lasting asked = not (is_removal asked.call)

abbrev pub needs_by : Bool → CallPlace → Bool
needs_by lasting (SentByPlace to) = true
needs_by lasting (SentByRange to) = lasting
needs_by lasting place = false

abbrev pub needs_deed : Bool → (ℕ → CallPlace) → Name → Asked → Bool
needs_deed used call name asked =
    is_call_on name asked && needs_by (used && (is_object name && is_lasting asked)) (call asked.caller)

-- a withdrawal of a call on this queue or set
abbrev pub is_cancel_on : Name → Asked → Bool
is_cancel_on name asked = is_object name && option_map_or (is_same_name name) (withdrawn_from asked.call) false

abbrev pub steps_of : Bool → (ℕ → CallPlace) → Name → Frame → List PlayStep
steps_of used call name (frames.Grant deed) = steps_if (is_same_name name deed.name) Comes
steps_of used call name (frames.Checkpoint pid parent deed vars) = steps_if (is_same_name name deed.name) Comes
steps_of used call name (frames.ExitTo parcel) =
    if has_deed_of name parcel then Comes ∷ [] else steps_if (is_same_name name (Proc parcel.parent)) IsNeeded
steps_of used call name (frames.Recall other) = steps_if (is_same_name name other) Goes
steps_of used call name frames.RecallAll = AllGo ∷ []
steps_of used call name (frames.Forward asked) = steps_if (needs_deed used call name asked) IsNeeded
steps_of used call name (frames.Cancel asked) = steps_if (used && is_cancel_on name asked) IsNeeded
steps_of used call name frame = []

abbrev pub plays : Bool → (ℕ → CallPlace) → Name → List Frame → List PlayStep
plays used call name frames_there = flat_map (steps_of used call name) frames_there

-- how it begins: nothing is held where the node has left; else the deed is in the table, or in a Checkpoint that isn't
-- from the leader, or not
abbrev pub begin : Stage → Bool → Bool → Hold
begin Left holds comes = Done
begin stage holds comes = if holds || comes then Has else Lacks

abbrev pub has_any : List Frame → Bool
has_any [] = false
has_any (f ∷ fs) = true

abbrev pub is_checkpoint_of : Name → Frame → Bool
is_checkpoint_of name (frames.Checkpoint pid parent deed vars) = is_same_name name deed.name
is_checkpoint_of name frame = false

abbrev pub brings_checkpoint : Name → List Frame → Bool
brings_checkpoint name frames_there = has_any (filter (is_checkpoint_of name) frames_there)

-- ---- what the leader believes, and will once it has taken what a maker tells it

pub data Belief : Type 0 where
  Nowhere : Belief
  Somewhere : (node : ℕ) → Belief
  OnTheWay : Belief

abbrev pub placed_by : Name → Frame → List ℕ
placed_by name (frames.Placed other node) = if is_same_name name other then node ∷ [] else []
placed_by name frame = []

abbrev pub placed_in : Name → List Frame → List ℕ
placed_in name frames_there = flat_map (placed_by name) frames_there

abbrev pub told : List ℕ → Belief
told [] = Nowhere
told (node ∷ nodes) = Somewhere node

abbrev pub believed : Option Place → List ℕ → Belief
believed (Some (At node)) nodes = Somewhere node
believed (Some (Coming to items)) nodes = OnTheWay
believed None nodes = told nodes

abbrev pub is_there : ℕ → Belief → Bool
is_there node Nowhere = false
is_there node (Somewhere other) = nat_eq other node
is_there node OnTheWay = false

abbrev pub is_has : Hold → Bool
is_has Has = true
is_has Lacks = false
is_has Done = false

-- ---- what has to stand behind a name's Placed, on the way from its maker to the leader

pub data News : Type 0 where
  Tells : News
  NeedsPlace : News

abbrev pub news_if : Bool → News → List News
news_if true s = s ∷ []
news_if false s = []

-- a Leaving counts where its node made the name
abbrev pub news_of : Name → Bool → Frame → List News
news_of name made (frames.Placed other node) = news_if (is_same_name name other) Tells
news_of name made (frames.Bounce asked) = news_if (is_call_on name asked) NeedsPlace
news_of name made (frames.Leaving pid parent parent_node) = news_if made NeedsPlace
news_of name made frame = []

abbrev pub news : Name → Bool → List Frame → List News
news name made frames_there = flat_map (news_of name made) frames_there

-- what needs the place finds it known, or behind the frame that tells it
abbrev pub finds_place : Bool → List News → Bool
finds_place true rest = true
finds_place false [] = true
finds_place false (Tells ∷ rest) = true
finds_place false (NeedsPlace ∷ rest) = false
