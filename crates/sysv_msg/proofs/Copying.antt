-- Messages that are read one after the other, and linked.
use Rattle.std.proofs.Common.{◌≡◌, ◌∙◌, ℕ, ◌+◌, ◌-◌, ◌<◌, List, [], ◌∷◌, ◌++◌, length, Option, Some, None, refl, ap, arith}
use Rattle.std.proofs.lemmas.List.{map-append}
use Rattle.std.proofs.lemmas.List.Sums.{sum_by_push}
use Rattle.index_links.specs.Nodes.{Node}
use Rattle.kernel_model.specs.Queue.{Message, bytes_of}
use Rattle.frame_bytes.specs.Readers.{many}
use Rattle.frame_bytes.proofs.Loop.{goes_on, with_front}
use Rattle.sysv_msg.specs.Linked.{message_of, messages_of}
use Rattle.sysv_msg.specs.Reading.{message_at}

-- a message in its slot
abbrev pub Head : Type 0
Head = Node (List ℕ)

-- so many messages were read and linked, and their texts have so many bytes
pub record HasCopied (count counter size : ℕ) (bytes rest : List ℕ) (ns : List Head) : Type 0 where
  pub read : with_front (messages_of ns) (many message_at (count - counter) rest) ≡ many message_at count bytes
  pub sum : size ≡ bytes_of (messages_of ns)

nothing-before : (o : Option (List Message × List ℕ)) → with_front [] o ≡ o
nothing-before None = refl
nothing-before (Some x) = refl

-- before the first
pub begins-copying : (count : ℕ) (bytes : List ℕ) (ns : List Head) → ns ≡ [] → HasCopied count 0 0 bytes bytes ns
begins-copying count bytes ns none =
    let k : count - 0 ≡ count = omega arith in
    rw none (record { read = rw k (nothing-before (many message_at count bytes)); sum = refl })

-- one message more, and its text
bytes-more : (ms : List Message) (m : Message) → bytes_of (ms ++ m ∷ []) ≡ bytes_of ms + length m.text
bytes-more ms m = sum_by_push (λ (k : Message). length k.text) ms m

-- behind one more
pub copies-on : (count counter size : ℕ) (bytes rest after : List ℕ) (ns ns' : List Head) (n : Head)
    → counter < count → message_at rest ≡ Some (message_of n, after) → ns' ≡ ns ++ n ∷ []
    → HasCopied count counter size bytes rest ns
    → HasCopied count (counter + 1) (size + length n.value) bytes after ns'
copies-on count counter size bytes rest after ns ns' n lt read is h =
    let more : messages_of ns' ≡ messages_of ns ++ message_of n ∷ [] =
    ap messages_of is ∙ map-append message_of ns (n ∷ []) in
    let text : bytes_of (messages_of ns') ≡ bytes_of (messages_of ns) + length n.value =
    ap bytes_of more ∙ bytes-more (messages_of ns) (message_of n) in
    let sum = h.sum in
    record {
      read = rw more (goes_on Message message_at (messages_of ns) count counter rest (message_of n) after
          (many message_at count bytes) lt read h.read);
      sum = omega (arith, sum, text);
    }
