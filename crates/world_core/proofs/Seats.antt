-- The events of a node that are enabled: the frames that it may take, by rising sender, and its run.
use Rattle.std.proofs.Common.{◌≡◌, ◌≢◌, ℕ, ◌+◌, ◌-◌, ◌<◌, ◌≤◌, zero, suc, Bool, true, false, ◌&&◌, List, [], ◌∷◌, ◌++◌, length, map, get_or, slice_get, cond, Option, Some, None, IfSome, IsSome, IsTrue, refl, sym, ap, subst, ◌∙◌, arith, length-append}
use Rattle.std.specs.List.{filter, count_by}
use Rattle.std.specs.Option.{option_map}
use Rattle.std.proofs.lemmas.List.{length-map}
use Rattle.std.proofs.lemmas.Option.{slice_get-map, slice_get_past, slice_get_within}
use Rattle.std.proofs.lemmas.List.Elements.{filter-append}
use Rattle.std.proofs.lemmas.List.Sums.{length-filter, count_by-le-length, sum_by-le-sum_by}
use Rattle.pico_base.specs.declared.script.Event.{Event}
use Rattle.pico_base.specs.declared.script.Event.TheVariants as events
use Rattle.rpc_frame.specs.declared.frame.Frame.{Frame}
use Rattle.world_model.specs.Node.{Node, is_born, can_run}
use Rattle.world_model.specs.World.{World, numbers, size, node_at, is_number, is_enabled, is_take_enabled, is_run_enabled}
use Rattle.world_model.specs.Schedule.{enabled_at}
use Rattle.world_core.specs.Inbox.{filled_in, is_filled, may_take, from_node, senders}
use Rattle.world_core.specs.Seat.{IsSeat}
use Rattle.world_core.proofs.Lists.{slice_get-left, slice_get-right, filter-map, filter_same, count_numbers, past_of-none}
use Rattle.std.proofs.lemmas.List.{get_or_read}
use Rattle.kernel_model.specs.Numbers.{is_between}
use Rattle.world_model.specs.World.{node_count}
use Rattle.world_core.specs.declared.state.State.{State}
use Rattle.world_core.specs.Counts.{events_at}
use Rattle.world_core.specs.State.{IsAlive, AreSeats, world_of}
use Rattle.world_core.proofs.Counting.{counts-at, length-counts}
use Rattle.world_core.proofs.Worlds.{IsShaped, alive-shaped}
use Rattle.world_core.proofs.Wholes.{take_enabled, length-whole, whole_at, slice_get-whole}

pub length-senders : (b : Bool) (row : List (List Frame)) → length (senders b row) ≡ count_by (may_take b) row
length-senders b row =
    length-filter (λ from. may_take b (from_node row from)) (numbers 1 (length row))
    ∙ count_numbers (may_take b) (λ from. may_take b (from_node row from)) [] row 1
    (λ j. let e : 1 + j - 1 ≡ j = omega arith in ap (λ (k : ℕ). may_take b (get_or row k [])) e)

any_taken : (fs : List Frame) → may_take true fs ≡ is_filled fs
any_taken [] = refl
any_taken (f ∷ fs) = refl

at_most_one : (b : Bool) → cond b 1 0 ≤ 1
at_most_one true = omega arith
at_most_one false = omega arith

few_taken : (b : Bool) (fs : List Frame) → cond (may_take b fs) 1 0 ≤ cond (is_filled fs) 1 0
few_taken b [] = omega arith
few_taken b (f ∷ fs) = at_most_one (may_take b (f ∷ fs))

-- no more frames may be taken than there are streams that have one; a node that is born takes them all
pub count-le-filled : (b : Bool) (row : List (List Frame)) → count_by (may_take b) row ≤ filled_in row
count-le-filled b row =
    sum_by-le-sum_by (λ (fs : List Frame). cond (may_take b fs) 1 0) (λ (fs : List Frame). cond (is_filled fs) 1 0) row
    (few_taken b)

pub count-born : (row : List (List Frame)) → count_by (may_take true) row ≡ filled_in row
count-born row =
    let most : filled_in row ≤ count_by (may_take true) row =
    sum_by-le-sum_by (λ (fs : List Frame). cond (is_filled fs) 1 0)
    (λ (fs : List Frame). cond (may_take true fs) 1 0) row
    (λ fs. let one : Bool → ℕ = λ b. cond b 1 0 in let e : one (is_filled fs) ≡ one (may_take true fs) =
    ap one (sym (any_taken fs)) in omega arith)
    in let least = count-le-filled true row in omega arith

number_is : (p : ℕ) → 1 ≤ p → is_number p ≡ true
number_is p le = grind arith

takes_is : (w : World) (p from : ℕ) (n : Node) (row : List (List Frame)) → 1 ≤ p → 1 ≤ from → node_at w p ≡ Some n
    → get_or w.streams (p - 1) [] ≡ row → is_enabled w (events.Take p from) ≡ may_take (is_born n) (from_node row from)
takes_is w p from n row le_p le_from here is_row =
    ap (λ (b : Bool). b && is_number from
    && is_take_enabled (node_at w p) (from_node (get_or w.streams (p - 1) []) from)) (number_is p le_p)
    ∙ ap (λ (b : Bool). true && b && is_take_enabled (node_at w p) (from_node (get_or w.streams (p - 1) []) from))
    (number_is from le_from)
    ∙ ap (λ (o : Option Node). is_take_enabled o (from_node (get_or w.streams (p - 1) []) from)) here
    ∙ ap (λ (l : List (List Frame)). is_take_enabled (Some n) (from_node l from)) is_row
    ∙ sym (take_enabled n (from_node row from))

run_is : (w : World) (p : ℕ) (n : Node) → 1 ≤ p → node_at w p ≡ Some n → is_enabled w (events.Run p) ≡ can_run n
run_is w p n le here =
    ap (λ (b : Bool). b && is_run_enabled (node_at w p)) (number_is p le)
    ∙ ap (λ (o : Option Node). is_run_enabled o) here

abbrev pub run_of : Bool → ℕ → List Event
run_of b p = cond b (events.Run p ∷ []) []

pub enabled_at-seat : (w : World) (p : ℕ) (n : Node) (row : List (List Frame)) → 1 ≤ p → node_at w p ≡ Some n
    → get_or w.streams (p - 1) [] ≡ row → length row ≡ size w
    → enabled_at w p ≡ map (λ from. events.Take p from) (senders (is_born n) row) ++ run_of (can_run n) p
enabled_at-seat w p n row le here is_row width =
    let take : ℕ → Event = λ from. events.Take p from
    in let test : ℕ → Bool = λ from. is_enabled w (events.Take p from)
    in let may : ℕ → Bool = λ from. may_take (is_born n) (from_node row from)
    in let taken : filter test (numbers 1 (size w)) ≡ senders (is_born n) row =
    filter_same test may (size w) 1 (omega arith) (λ k le_k. takes_is w p k n row le le_k here is_row)
    ∙ ap (λ (m : ℕ). filter may (numbers 1 m)) (sym width)
    in filter-append (is_enabled w) (map take (numbers 1 (size w))) (events.Run p ∷ [])
    ∙ ap (λ (l : List Event). l ++ filter (is_enabled w) (events.Run p ∷ []))
    (filter-map take (is_enabled w) (numbers 1 (size w)) ∙ ap (λ (l : List ℕ). map take l) taken)
    ∙ ap (λ (b : Bool). map take (senders (is_born n) row) ++ run_of b p) (run_is w p n le here)

-- how many there are
length-run_of : (b : Bool) (p : ℕ) → length (run_of b p) ≡ cond b 1 0
length-run_of true p = refl
length-run_of false p = refl

pub length-enabled_at : (w : World) (p : ℕ) (n : Node) (row : List (List Frame)) → 1 ≤ p → node_at w p ≡ Some n
    → get_or w.streams (p - 1) [] ≡ row → length row ≡ size w
    → length (enabled_at w p) ≡ length (senders (is_born n) row) + cond (can_run n) 1 0
length-enabled_at w p n row le here is_row width =
    let take : ℕ → Event = λ from. events.Take p from
    in ap length (enabled_at-seat w p n row le here is_row width)
    ∙ length-append (map take (senders (is_born n) row)) (run_of (can_run n) p)
    ∙ ap (λ (k : ℕ). k + length (run_of (can_run n) p)) (length-map (senders (is_born n) row) take)
    ∙ ap (λ (k : ℕ). length (senders (is_born n) row) + k) (length-run_of (can_run n) p)

-- which one stands at a place
pub taken_at : (w : World) (p i : ℕ) (n : Node) (row : List (List Frame)) → 1 ≤ p → node_at w p ≡ Some n
    → get_or w.streams (p - 1) [] ≡ row → length row ≡ size w → i < length (senders (is_born n) row)
    → slice_get (enabled_at w p) i ≡ option_map (λ from. events.Take p from) (slice_get (senders (is_born n) row) i)
taken_at w p i n row le here is_row width lt =
    let take : ℕ → Event = λ from. events.Take p from
    in let lt' : i < length (map take (senders (is_born n) row)) =
    omega (arith, length-map (senders (is_born n) row) take)
    in ap (λ (l : List Event). slice_get l i) (enabled_at-seat w p n row le here is_row width)
    ∙ slice_get-left (map take (senders (is_born n) row)) (run_of (can_run n) p) i lt'
    ∙ slice_get-map take (senders (is_born n) row) i

pub run_at : (w : World) (p i : ℕ) (n : Node) (row : List (List Frame)) → 1 ≤ p → node_at w p ≡ Some n
    → get_or w.streams (p - 1) [] ≡ row → length row ≡ size w → length (senders (is_born n) row) ≤ i
    → slice_get (enabled_at w p) i ≡ slice_get (run_of (can_run n) p) (i - length (senders (is_born n) row))
run_at w p i n row le here is_row width past =
    let take : ℕ → Event = λ from. events.Take p from
    in let same = length-map (senders (is_born n) row) take
    in ap (λ (l : List Event). slice_get l i) (enabled_at-seat w p n row le here is_row width)
    ∙ slice_get-right (map take (senders (is_born n) row)) (run_of (can_run n) p) i (omega arith)
    ∙ ap (λ (k : ℕ). slice_get (run_of (can_run n) p) (i - k)) same

-- how many frames a node may take

-- a node that is born may take a frame from each stream that has one
pub takes_born : (b : Bool) (row : List (List Frame)) → b ≡ true → filled_in row ≡ length (senders b row)
takes_born b row e =
    sym (count-born row) ∙ ap (λ (x : Bool). count_by (may_take x) row) (sym e) ∙ sym (length-senders b row)

-- where no stream has a frame, none may be taken
pub takes_none : (b : Bool) (row : List (List Frame)) → filled_in row ≡ 0 → 0 ≡ length (senders b row)
takes_none b row none =
    let few = count-le-filled b row in let e : 0 ≡ count_by (may_take b) row =
    omega arith in e ∙ sym (length-senders b row)

-- a node that isn't born may take from as many streams as have a frame for such a node first
pub takes_unborn : (b : Bool) (row : List (List Frame)) → b ≡ false
    → count_by (may_take false) row ≡ length (senders b row)
takes_unborn b row e = ap (λ (x : Bool). count_by (may_take x) row) (sym e) ∙ sym (length-senders b row)

pub senders-le : (b : Bool) (row : List (List Frame)) → length (senders b row) ≤ length row
senders-le b row = let few = count_by-le-length (may_take b) row in omega (arith, length-senders b row)

-- the events at a seat

at_node : (found : Option Node) (n : Node) (b : Bool) (f : Node → Bool) → found ≡ Some n → IfSome found (λ m. b ≡ f m)
    → b ≡ f n
at_node found n b f e h = let P : Option Node → Type 0 = λ o. IfSome o (λ m. b ≡ f m) in subst P e h

-- the first events of a node are to take a frame of each sender, in order
pub seat-taken : (w : World) (p i from : ℕ) (found : Option Node) (row : List (List Frame)) (b : Bool)
    → IsSeat w p found row
    → IfSome found (λ n. b ≡ is_born n) → Some from ≡ slice_get (senders b row) i
    → Some (events.Take p from) ≡ slice_get (enabled_at w p) i
seat-taken w p i from found row b seat born is_from =
    let n = seat.node
    in let lt = slice_get_within (senders b row) i from (sym is_from)
    in let e : b ≡ is_born n = at_node found n b is_born seat.is_node born
    in let lt' : i < length (senders (is_born n) row) = subst (λ (x : Bool). i < length (senders x row)) e lt
    in ap (option_map (λ k. events.Take p k)) is_from
    ∙ ap (λ (x : Bool). option_map (λ k. events.Take p k) (slice_get (senders x row) i)) e
    ∙ sym (taken_at w p i n row seat.number seat.here seat.is_row seat.width lt')

-- a node's events are the frames that it may take, and its run where it can run
seat-count : (w : World) (p : ℕ) (found : Option Node) (row : List (List Frame)) (r : Bool)
    (seat : IsSeat w p found row) → IfSome found (λ n. r ≡ can_run n)
    → length (enabled_at w p) ≡ length (senders (is_born seat.node) row) + cond r 1 0
seat-count w p found row r seat runs =
    let n = seat.node
    in length-enabled_at w p n row seat.number seat.here seat.is_row seat.width
    ∙ ap (λ (x : Bool). length (senders (is_born n) row) + cond x 1 0)
    (sym (at_node found n r can_run seat.is_node runs))

seat-more : (w : World) (p : ℕ) (found : Option Node) (row : List (List Frame)) (r : Bool)
    (seat : IsSeat w p found row) → IfSome found (λ n. r ≡ can_run n) → r ≡ true
    → length (enabled_at w p) ≡ length (senders (is_born seat.node) row) + 1
seat-more w p found row r seat runs may =
    seat-count w p found row r seat runs
    ∙ ap (λ (x : Bool). length (senders (is_born seat.node) row) + cond x 1 0) may

-- a node's last event is its run, where it can run
pub seat-run : (w : World) (p i count : ℕ) (found : Option Node) (row : List (List Frame)) (r : Bool)
    → IsSeat w p found row → IfSome found (λ n. r ≡ can_run n) → count ≡ length (enabled_at w p) → r ≡ true
    → i ≡ count - 1 → Some (events.Run p) ≡ slice_get (enabled_at w p) i
seat-run w p i count found row r seat runs counted may last =
    let n = seat.node
    in let more = seat-more w p found row r seat runs may
    in let e : can_run n ≡ true = sym (at_node found n r can_run seat.is_node runs) ∙ may
    in let here : i - length (senders (is_born n) row) ≡ 0 = omega (arith, counted)
    in sym (run_at w p i n row seat.number seat.here seat.is_row seat.width (omega (arith, counted))
    ∙ ap (λ (k : ℕ). slice_get (run_of (can_run n) p) k) here ∙ ap (λ (x : Bool). slice_get (run_of x p) 0) e)

-- a place with no sender is past them all
seat-taken_all : (w : World) (p i : ℕ) (found : Option Node) (row : List (List Frame)) (b : Bool)
    (seat : IsSeat w p found row)
    → IfSome found (λ n. b ≡ is_born n) → None ≡ slice_get (senders b row) i
    → length (senders (is_born seat.node) row) ≤ i
seat-taken_all w p i found row b seat born none =
    let e : b ≡ is_born seat.node = at_node found seat.node b is_born seat.is_node born
    in subst (λ (x : Bool). length (senders x row) ≤ i) e (past_of-none (senders b row) i none)

-- past its frames to take, and where its run isn't, a node that can run has no event,
pub seat-past : (w : World) (p i count : ℕ) (found : Option Node) (row : List (List Frame)) (b r : Bool)
    → IsSeat w p found row → IfSome found (λ n. b ≡ is_born n) → IfSome found (λ n. r ≡ can_run n)
    → count ≡ length (enabled_at w p) → r ≡ true → i ≢ count - 1 → None ≡ slice_get (senders b row) i
    → None ≡ slice_get (enabled_at w p) i
seat-past w p i count found row b r seat born runs counted may other none =
    let more = seat-more w p found row r seat runs may
    in let le = seat-taken_all w p i found row b seat born none
    in sym (slice_get_past (enabled_at w p) i (omega (arith, counted)))

-- and neither has one that can't run
pub seat-rests : (w : World) (p i : ℕ) (found : Option Node) (row : List (List Frame)) (b r : Bool)
    → IsSeat w p found row → IfSome found (λ n. b ≡ is_born n) → IfSome found (λ n. r ≡ can_run n) → r ≡ false
    → None ≡ slice_get (senders b row) i → None ≡ slice_get (enabled_at w p) i
seat-rests w p i found row b r seat born runs rests none =
    let all = seat-count w p found row r seat runs
    ∙ ap (λ (x : Bool). length (senders (is_born seat.node) row) + cond x 1 0) rests
    in let le = seat-taken_all w p i found row b seat born none
    in sym (slice_get_past (enabled_at w p) i (omega arith))

some_of : (o : Option Node) → IsSome o → (n : Node) × (o ≡ Some n)
some_of None some = absurd (let f : ⊥ = cc in f)
some_of (Some n) some = (n, refl)

-- a number that passes the test for 1 to 32 is at most 32
pub few_of : (n : ℕ) → IsTrue (is_between 1 32 n) → n ≤ 32
few_of n e = grind arith

-- what stands at a node's place
pub seat_is : (s : State) (p k : ℕ) (found : Option Node) (row : List (List Frame)) → IsAlive s
    → p ≤ node_count s.script
    → k + 1 ≡ p → found ≡ get_or s.nodes.items k found → row ≡ get_or s.inboxes.items k row
    → IsSeat (world_of s) p found row
seat_is s p k found row alive le next is_found is_row =
    let w = world_of s in
    let shaped : IsShaped w = alive-shaped s alive in
    let place : k ≡ p - 1 = omega arith in
    let width_nodes : length s.nodes.items ≡ size w = sym (length-whole s.nodes.items alive.nodes) ∙ shaped.nodes in
    let lt_node : k < length s.nodes.items = omega arith in
    let lt_row : k < length s.inboxes.items = omega (arith, shaped.streams) in
    let slot : found ≡ get_or s.nodes.items k None = get_or_read s.nodes.items k found lt_node is_found None in
    let some : IsSome found =
    subst (λ (o : Option Node). IsSome o) (sym slot) (whole_at s.nodes.items k alive.nodes lt_node) in
    let node = some_of found some in
    let row_here : get_or s.inboxes.items k [] ≡ row = sym (get_or_read s.inboxes.items k row lt_row is_row []) in
    record {
      number = omega arith;
      few = few_of (size w) alive.sound.size;
      node = node.0;
      is_node = node.1;
      here =
          slice_get-whole s.nodes.items (p - 1) alive.nodes ∙ ap (λ (i : ℕ). get_or s.nodes.items i None) (sym place)
          ∙ sym slot ∙ node.1;
      is_row = ap (λ (i : ℕ). get_or s.inboxes.items i []) (sym place) ∙ row_here;
      width = sym (ap length row_here) ∙ shaped.square k lt_row ∙ shaped.streams;
    }

-- in a state that is alive no node is spent, and each has a stream from each
pub alive-seats : (s : State) → IsAlive s → AreSeats s.nodes.items s.inboxes.items
alive-seats s alive =
    let w = world_of s in
    let shaped : IsShaped w = alive-shaped s alive in
    let few = few_of (size w) alive.sound.size in
    let same = length-whole s.nodes.items alive.nodes in
    record {
      whole = alive.nodes;
      few = omega (arith, shaped.nodes);
      width = omega (arith, shaped.nodes, shaped.streams);
      square = shaped.square;
    }

read_there : {X : Type 0} (xs : List X) (k : ℕ) (d : X) → k < length xs → get_or xs k d ≡ get_or xs k (get_or xs k d)
read_there [] k d lt = absurd (omega arith)
read_there (x ∷ xs) zero d lt = refl
read_there (x ∷ xs) (suc k) d lt = read_there xs k d (omega arith)

-- what is kept for a node is how many of its events may come next
pub count-there : (s : State) (p k : ℕ) → IsAlive s → p ≤ node_count s.script → k + 1 ≡ p
    → (k < length s.counts) × (get_or s.counts k 0 ≡ length (enabled_at (world_of s) p))
    × (length (enabled_at (world_of s) p) ≤ 33)
count-there s p k alive le next =
    let w = world_of s in
    let ns = s.nodes.items in
    let rows = s.inboxes.items in
    let seats = alive-seats s alive in
    let shaped : IsShaped w = alive-shaped s alive in
    let lt : k < length ns = omega (arith, shaped.nodes, length-whole ns alive.nodes) in
    let lt' : k < length rows = omega (arith, seats.width) in
    let found = get_or ns k None in
    let row = get_or rows k [] in
    let seat : IsSeat w p found row =
    seat_is s p k found row alive le next (read_there ns k None lt) (read_there rows k [] lt') in
    let n = seat.node in
    let here : length (enabled_at w p) ≡ length (senders (is_born n) row) + cond (can_run n) 1 0 =
    length-enabled_at w p n row seat.number seat.here seat.is_row seat.width in (
      (let width = ap length alive.counted in omega (arith, length-counts ns rows seats.width)),
      ap (λ (l : List ℕ). get_or l k 0) alive.counted ∙ counts-at ns rows k lt lt'
          ∙ ap (λ (m : Option Node). events_at m row) seat.is_node ∙ sym here,
      (let few = senders-le (is_born n) row in let one = at_most_one (can_run n) in
          omega (arith, here, seat.width, seat.few)),
    )
