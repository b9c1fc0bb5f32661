-- The bytes of some frames, worked out by the checker.
use Rattle.std.specs.Prelude.{◌≡◌, pos, true, false, [], ◌∷◌, refl}
use Rattle.pico_base.specs.declared.call.Call.TheVariants as calls
use Rattle.pico_base.specs.declared.numbers.Kind.TheVariants as kinds
use Rattle.pico_base.specs.declared.numbers.Name.TheVariants as names
use Rattle.pico_base.specs.declared.reply.Errno.TheVariants.{Enomsg}
use Rattle.pico_base.specs.declared.reply.Reply.TheVariants as replies
use Rattle.rpc_frame.specs.declared.frame.Frame.TheVariants as frames
use Rattle.frame_bytes.specs.Frames.{frame_bytes}

not_owner : frame_bytes (frames.NotOwner 7) ≡ 0 ∷ 0 ∷ 0 ∷ 5 ∷ 6 ∷ 0 ∷ 0 ∷ 0 ∷ 7 ∷ []
not_owner = refl

recall_all : frame_bytes frames.RecallAll ≡ 0 ∷ 0 ∷ 0 ∷ 1 ∷ 0x10 ∷ []
recall_all = refl

suggest : frame_bytes (frames.Suggest (names.Msg 1) 2) ≡ 0 ∷ 0 ∷ 0 ∷ 7 ∷ 0x0b ∷ 2 ∷ 0 ∷ 0 ∷ 0 ∷ 1 ∷ 2 ∷ []
suggest = refl

lease : frame_bytes (frames.Lease kinds.Proc 9) ≡ 0 ∷ 0 ∷ 0 ∷ 6 ∷ 8 ∷ 1 ∷ 0 ∷ 0 ∷ 0 ∷ 9 ∷ []
lease = refl

-- a receive from queue 1 of type 0 and at most 8 bytes, with nowait
ask : frame_bytes (frames.Ask 3 2 (calls.MsgRcv 1 (pos 0) 8 false true))
    ≡ 0 ∷ 0 ∷ 0 ∷ 0x18 ∷ 1 ∷ 0 ∷ 0 ∷ 0 ∷ 3 ∷ 0 ∷ 0 ∷ 0 ∷ 2 ∷ 4 ∷ 0 ∷ 0 ∷ 0 ∷ 1 ∷ 0 ∷ 0 ∷ 0 ∷ 0 ∷ 0 ∷ 0 ∷ 0 ∷ 8 ∷ 0 ∷ 1
    ∷ []
ask = refl

answer : frame_bytes (frames.Answer 3 (replies.Fail Enomsg)) ≡ 0 ∷ 0 ∷ 0 ∷ 7 ∷ 5 ∷ 0 ∷ 0 ∷ 0 ∷ 3 ∷ 5 ∷ 6 ∷ []
answer = refl

-- a signal interrupts the wait of process 2 at queue 1
cancel : frame_bytes (frames.Cancel (record { caller = 2; ticket = 3; pid = 2; call = calls.Withdraw (names.Msg 1) }))
    ≡ 0 ∷ 0 ∷ 0 ∷ 0x10 ∷ 0x13 ∷ 2 ∷ 0 ∷ 0 ∷ 0 ∷ 3 ∷ 0 ∷ 0 ∷ 0 ∷ 2 ∷ 0x14 ∷ 2 ∷ 0 ∷ 0 ∷ 0 ∷ 1 ∷ []
cancel = refl
