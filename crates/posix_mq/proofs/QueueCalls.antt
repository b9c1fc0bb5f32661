-- The calls on POSIX message queues that are read are within their ranges, and are those of a given script.
use Rattle.std.proofs.Common.{◌≡◌, ℕ, ◌≤◌, pos, Bool, true, false, ◌&&◌, not, List, [], ◌∷◌, Some, refl, arith}
use Rattle.std.specs.Prelude.{IfSome, codes}
use Rattle.std.proofs.lemmas.Bool.{and_from}
use Rattle.pico_base.specs.declared.call.Call.TheVariants as calls
use Rattle.pico_base.specs.Options.{◌>>=◌}
use Rattle.kernel_model.specs.Script as model
use Rattle.kernel_model.specs.Numbers.{is_u16, is_u32}
use Rattle.kernel_model.specs.Texts.{has_spelling}
use Rattle.quoted_bytes.specs.Front.{strip}
use Rattle.script_reader.specs.Parts.{number, positive, text}
use Rattle.script_reader.specs.Forms.{FromCall, Object, identifier, plainly, two_optional}
use Rattle.script_reader.proofs.Ranges.{if_bind, Anything, anything, number_small, positive_small, is_type_from, IsObject, identifier_small}
use Rattle.script_reader.proofs.Widths.{width, text_spelled}
use Rattle.script_reader.proofs.CallRanges.{IsOther, either, u32, u16, key_fits, shared}
use Rattle.mq_model.specs.Reading.{name_number, mqopen_of, mqsend_of, mqreceive_of, mqgetattr_of}
use Rattle.mq_model.specs.Given.{is_given_call}

-- a call that is within its ranges, and one of a given script
pub record IsQueueCall (c : FromCall) : Type 0 where
  pub other : IsOther c
  pub given : is_given_call c.1 ≡ true

abbrev IsName : ℕ → Type 0
IsName n = (1 ≤ n) × (n ≤ 1000000)

name_small : (w : List ℕ) → IfSome (name_number w) IsName
unfolding name_number
name_small w =
    if_bind (strip (codes "/") w) (positive 1000000) Anything IsName (anything (strip (codes "/") w))
    (λ digits _. positive_small 1000000 digits)

open_of : (name : ℕ) (create excl : Bool) → IsName name → IsQueueCall (plainly (calls.MsgGet (Some name) create excl))
open_of name create excl h =
    record {
      other =
          record {
            fits = record { in_range = key_fits name (h.0, omega (arith, h.1)); named = refl; variable = refl };
            no_exit = refl;
            no_fork = refl;
          };
      given = refl;
    }

-- `mqopen /N [create] [excl]`
pub mqopen_fits : (ws : List (List ℕ)) → IfSome (mqopen_of ws) IsQueueCall
unfolding mqopen_of
mqopen_fits [] = tt
mqopen_fits (n ∷ more) =
    if_bind (name_number n)
    (λ name. two_optional (codes "create") (codes "excl") more >>= λ flags.
    Some (plainly (calls.MsgGet (Some name) flags.0 flags.1))) IsName IsQueueCall (name_small n)
    (λ name h. if_bind (two_optional (codes "create") (codes "excl") more)
    (λ flags. Some (plainly (calls.MsgGet (Some name) flags.0 flags.1))) Anything IsQueueCall
    (anything (two_optional (codes "create") (codes "excl") more)) (λ flags _. open_of name flags.0 flags.1 h))

send_of : (o : Object) (priority : ℕ) (bytes : List ℕ) → IsObject o → priority ≤ 65535 → has_spelling bytes ≡ true
    → IsQueueCall (o.0, calls.MsgSnd o.1 (pos priority) bytes false)
send_of o priority bytes h p s =
    let range : model.is_in_range (calls.MsgSnd o.1 (pos priority) bytes false) ≡ true =
    and_from (is_u32 o.1) (model.is_type (pos priority) && has_spelling bytes) (u32 o.1 h.small)
    (and_from (model.is_type (pos priority)) (has_spelling bytes) (is_type_from (pos priority) (omega (arith, p))) s) in
    record {
      other = shared o (calls.MsgSnd o.1 (pos priority) bytes false) h range (either o.0) refl refl;
      given = and_from (is_u16 priority) (not false) (u16 priority p) refl;
    }

-- `mqsend Q P X`, in words that a line has room for
pub mqsend_fits : (ws : List (List ℕ)) → width ws ≤ 4097 → IfSome (mqsend_of ws) IsQueueCall
unfolding mqsend_of
mqsend_fits [] room = tt
mqsend_fits (q ∷ []) room = tt
mqsend_fits (q ∷ p ∷ []) room = tt
mqsend_fits (q ∷ p ∷ x ∷ []) room =
    if_bind (identifier q)
    (λ o. number 65535 p >>= λ priority. text x >>= λ bytes.
    Some (o.0, calls.MsgSnd o.1 (pos priority) bytes false)) IsObject IsQueueCall (identifier_small q)
    (λ o h. if_bind (number 65535 p)
    (λ priority. text x >>= λ bytes. Some (o.0, calls.MsgSnd o.1 (pos priority) bytes false)) (λ n. n ≤ 65535)
    IsQueueCall (number_small 65535 p)
    (λ priority k. if_bind (text x) (λ bytes. Some (o.0, calls.MsgSnd o.1 (pos priority) bytes false))
    (λ t. has_spelling t ≡ true) IsQueueCall (text_spelled x (omega (arith, room)))
    (λ bytes s. send_of o priority bytes h k s)))
mqsend_fits (q ∷ p ∷ x ∷ y ∷ ws) room = tt

receive_of : (o : Object) (size : ℕ) → IsObject o → size ≤ 65535
    → IsQueueCall (o.0, calls.MsgRcv o.1 (pos 0) size false false)
receive_of o size h s =
    let range : model.is_in_range (calls.MsgRcv o.1 (pos 0) size false false) ≡ true =
    and_from (is_u32 o.1) (model.is_type (pos 0) && is_u16 size) (u32 o.1 h.small)
    (and_from (model.is_type (pos 0)) (is_u16 size) (is_type_from (pos 0) (omega arith)) (u16 size s)) in
    record {
      other = shared o (calls.MsgRcv o.1 (pos 0) size false false) h range (either o.0) refl refl;
      given = and_from (is_u16 size) (not false && not false) (u16 size s) refl;
    }

-- `mqreceive Q Z`
pub mqreceive_fits : (ws : List (List ℕ)) → IfSome (mqreceive_of ws) IsQueueCall
unfolding mqreceive_of
mqreceive_fits [] = tt
mqreceive_fits (q ∷ []) = tt
mqreceive_fits (q ∷ z ∷ []) =
    if_bind (identifier q)
    (λ o. number 65535 z >>= λ size. Some (o.0, calls.MsgRcv o.1 (pos 0) size false false)) IsObject IsQueueCall
    (identifier_small q)
    (λ o h. if_bind (number 65535 z) (λ size. Some (o.0, calls.MsgRcv o.1 (pos 0) size false false)) (λ n. n ≤ 65535)
    IsQueueCall (number_small 65535 z) (λ size s. receive_of o size h s))
mqreceive_fits (q ∷ z ∷ x ∷ ws) = tt

-- `mqgetattr Q`
pub mqgetattr_fits : (ws : List (List ℕ)) → IfSome (mqgetattr_of ws) IsQueueCall
unfolding mqgetattr_of
mqgetattr_fits [] = tt
mqgetattr_fits (q ∷ []) =
    if_bind (identifier q) (λ o. Some (o.0, calls.MsgStat o.1)) IsObject IsQueueCall (identifier_small q)
    (λ o h. record {
      other = shared o (calls.MsgStat o.1) h (u32 o.1 h.small) (either o.0) refl refl;
      given = refl;
    })
mqgetattr_fits (q ∷ x ∷ ws) = tt
