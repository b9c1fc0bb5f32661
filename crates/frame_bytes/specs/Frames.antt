-- Frames as bytes: a length in 4 bytes, and so many bytes: the kind's code, and the kind's fields.
use Rattle.std.specs.Prelude.{ℕ, Bool, nat_le, ◌==◌, if◌then◌else◌, List, [], ◌∷◌, ◌++◌, length, map, Option, Some, None}
use Rattle.std.specs.List.{flat_map}
use Rattle.pico_base.specs.declared.call.Call.{Call}
use Rattle.pico_base.specs.declared.numbers.Name.{Name}
use Rattle.pico_base.specs.declared.numbers.Name.TheVariants as names
use Rattle.pico_base.specs.Options.{◌>>=◌}
use Rattle.rpc_frame.specs.declared.asked.Asked.{Asked}
use Rattle.rpc_frame.specs.declared.deed.PackedDeed.{PackedDeed}
use Rattle.rpc_frame.specs.declared.deed.Parcel.{Parcel}
use Rattle.rpc_frame.specs.declared.frame.Frame.{Frame}
use Rattle.rpc_frame.specs.declared.frame.Frame.TheVariants as frames
use Rattle.frame_bytes.specs.Readers.{Reader, byte_at, passing, one, two, three, four, counted, tabled}
use Rattle.frame_bytes.specs.Fields.{word, half, text, kind_byte, name_field, word_at, half_at, positive_at, node_at, kind_at, name_at, text_at, rise_from}
use Rattle.frame_bytes.specs.Calls.{call_bytes, asked_call_at, last_call_at, withdrawal_at}
use Rattle.frame_bytes.specs.Replies.{reply_bytes, reply_at}

-- a deed: its name, and its body as a text

abbrev pub deed_field : PackedDeed → List ℕ
deed_field deed = name_field deed.name ++ text deed.body

unfoldable pub deed_at : Reader PackedDeed
deed_at bytes = two name_at text_at (λ name body. record { name = name; body = body }) bytes

-- variables: a count, and by rising index the index and the value

abbrev pub is_index : ℕ → Bool
is_index n = nat_le n 2885

abbrev pub value_field : ℕ × ℕ → List ℕ
value_field v = half v.0 ++ word v.1

unfoldable pub index_at : Reader ℕ
index_at bytes = passing is_index half_at bytes

unfoldable pub value_at : Reader (ℕ × ℕ)
value_at bytes = two index_at word_at (λ index value. (index, value)) bytes

-- the indices rise
abbrev pub have_order : List (ℕ × ℕ) → Bool
have_order vars = rise_from 0 (map (λ v. v.0) vars)

abbrev pub vars_field : List (ℕ × ℕ) → List ℕ
vars_field vars = half (length vars) ++ flat_map value_field vars

unfoldable pub vars_at : Reader (List (ℕ × ℕ))
vars_at bytes = passing have_order (counted half_at value_at) bytes

-- the deeds of a parcel: a count in one byte, and by rising number the deeds of processes

abbrev pub process_of : Name → ℕ
process_of (names.Proc n) = n
process_of _ = 0

abbrev pub are_processes : List PackedDeed → Bool
are_processes deeds = rise_from 1 (map (λ deed. process_of deed.name) deeds)

abbrev pub deeds_field : List PackedDeed → List ℕ
deeds_field deeds = length deeds ∷ flat_map deed_field deeds

unfoldable pub deeds_at : Reader (List PackedDeed)
deeds_at bytes = passing are_processes (counted byte_at deed_at) bytes

-- a parcel

abbrev pub parcel_field : Parcel → List ℕ
parcel_field p = word p.pid ++ (word p.parent ++ (call_bytes p.call ++ deeds_field p.deeds))

unfoldable pub parcel_at : Reader Parcel
parcel_at bytes =
    four word_at word_at last_call_at deeds_at
    (λ pid parent call deeds. record { pid = pid; parent = parent; call = call; deeds = deeds }) bytes

-- a call that was asked for, and what Ask and Request say of it

abbrev pub asking : ℕ → ℕ → Call → List ℕ
asking ticket pid call = word ticket ++ (word pid ++ call_bytes call)

abbrev pub asked_field : Asked → List ℕ
asked_field asked = asked.caller ∷ asking asked.ticket asked.pid asked.call

abbrev pub asked_of : ℕ → ℕ → ℕ → Call → Asked
asked_of caller ticket pid call = record { caller = caller; ticket = ticket; pid = pid; call = call }

unfoldable pub asked_at : Reader Asked
asked_at bytes = four node_at positive_at word_at asked_call_at asked_of bytes

-- the same of a withdrawal
unfoldable pub cancelled_at : Reader Asked
cancelled_at bytes = four node_at positive_at word_at withdrawal_at asked_of bytes

-- frames

-- the bytes behind the length
abbrev pub frame_body : Frame → List ℕ
frame_body (frames.Ask ticket pid call) = 1 ∷ asking ticket pid call
frame_body (frames.Request ticket pid call) = 2 ∷ asking ticket pid call
frame_body (frames.Forward asked) = 3 ∷ asked_field asked
frame_body (frames.Bounce asked) = 4 ∷ asked_field asked
frame_body (frames.Answer ticket reply) = 5 ∷ (word ticket ++ reply_bytes reply)
frame_body (frames.NotOwner ticket) = 6 ∷ word ticket
frame_body (frames.LeaseAsk kind) = 7 ∷ kind_byte kind ∷ []
frame_body (frames.Lease kind first) = 8 ∷ kind_byte kind ∷ word first
frame_body (frames.Placed name node) = 9 ∷ (name_field name ++ node ∷ [])
frame_body (frames.Checkpoint pid parent deed vars) =
    10 ∷ (word pid ++ (word parent ++ (deed_field deed ++ vars_field vars)))
frame_body (frames.Suggest name node) = 11 ∷ (name_field name ++ node ∷ [])
frame_body (frames.Recall name) = 12 ∷ name_field name
frame_body (frames.GiveBack deed) = 13 ∷ deed_field deed
frame_body (frames.Grant deed) = 14 ∷ deed_field deed
frame_body (frames.Leaving pid parent parent_node) = 15 ∷ (word pid ++ (word parent ++ parent_node ∷ []))
frame_body frames.RecallAll = 16 ∷ []
frame_body (frames.Left parcel) = 17 ∷ parcel_field parcel
frame_body (frames.ExitTo parcel) = 18 ∷ parcel_field parcel
frame_body (frames.Cancel asked) = 19 ∷ asked_field asked

-- the greatest number that a length field may have
abbrev pub max_frame : ℕ
max_frame = 262144

-- the one spelling of a frame
abbrev pub frame_bytes : Frame → List ℕ
frame_bytes f = text (frame_body f)

-- Reading what is behind the length.

abbrev pub frame_rows : List (ℕ × Reader Frame)
frame_rows =
    (1, three positive_at word_at asked_call_at frames.Ask)
    ∷ (2, three positive_at word_at asked_call_at frames.Request)
    ∷ (3, one asked_at frames.Forward)
    ∷ (4, one asked_at frames.Bounce)
    ∷ (5, two positive_at reply_at frames.Answer)
    ∷ (6, one positive_at frames.NotOwner)
    ∷ (7, one kind_at frames.LeaseAsk)
    ∷ (8, two kind_at word_at frames.Lease)
    ∷ (9, two name_at node_at frames.Placed)
    ∷ (10, four word_at word_at deed_at vars_at frames.Checkpoint)
    ∷ (11, two name_at node_at frames.Suggest)
    ∷ (12, one name_at frames.Recall)
    ∷ (13, one deed_at frames.GiveBack)
    ∷ (14, one deed_at frames.Grant)
    ∷ (15, three word_at word_at node_at frames.Leaving)
    ∷ (16, λ bytes. Some (frames.RecallAll, bytes))
    ∷ (17, one parcel_at frames.Left)
    ∷ (18, one parcel_at frames.ExitTo)
    ∷ (19, one cancelled_at frames.Cancel)
    ∷ []

unfoldable pub frame_at : Reader Frame
frame_at bytes = tabled frame_rows bytes

-- a frame that all of the bytes spell
unfoldable pub whole_at : List ℕ → Option Frame
whole_at bytes = do
  f ← frame_at bytes
  if length f.1 == 0 then Some f.0 else None
