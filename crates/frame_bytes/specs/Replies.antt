-- Replies as bytes: a code, and the reply's values.
use Rattle.std.specs.Prelude.{ℕ, List, [], ◌∷◌, ◌++◌}
use Rattle.pico_base.specs.declared.reply.Reply.{Reply}
use Rattle.pico_base.specs.declared.reply.Reply.TheVariants as replies
use Rattle.pico_base.specs.ErrorNumber.{error_number}
use Rattle.frame_bytes.specs.Readers.{Reader, one, two, four, counted, tabled}
use Rattle.frame_bytes.specs.Fields.{word, signed, text, word_at, half_at, signed_at, errno_at, text_at}
use Rattle.frame_bytes.specs.Calls.{values_field}

-- the values of a set
unfoldable pub values_at : Reader (List ℕ)
values_at bytes = counted half_at word_at bytes

abbrev pub reply_bytes : Reply → List ℕ
reply_bytes (replies.Num n) = 1 ∷ word n
reply_bytes (replies.Message class bytes) = 2 ∷ (signed class ++ text bytes)
reply_bytes (replies.Stat qnum qbytes sender receiver) =
    3 ∷ (word qnum ++ (word qbytes ++ (word sender ++ word receiver)))
reply_bytes (replies.All values) = 4 ∷ values_field values
reply_bytes (replies.Fail errno) = 5 ∷ error_number errno ∷ []
reply_bytes _ = []

abbrev pub reply_rows : List (ℕ × Reader Reply)
reply_rows =
    (1, one word_at replies.Num)
    ∷ (2, two signed_at text_at replies.Message)
    ∷ (3, four word_at word_at word_at word_at replies.Stat)
    ∷ (4, one values_at replies.All)
    ∷ (5, one errno_at replies.Fail)
    ∷ []

unfoldable pub reply_at : Reader Reply
reply_at bytes = tabled reply_rows bytes
