-- Each call on queues beside the call that it stands for.
use Rattle.std.proofs.Common.{◌≡◌, ◌∙◌, ℕ, ◌+◌, ◌*◌, ◌<◌, ◌≤◌, ℤ, pos, negsuc, Bool, true, false, ◌&&◌, List, [], ◌∷◌, ◌++◌, length, map, Option, Some, None, refl, ap, sym, subst, arith, le-leb, le-ltb}
use Rattle.std.specs.Prelude.{if◌then◌else◌, nat_lt, nat_le, int_le, take, slice_get, remove}
use Rattle.std.specs.List.{list_all}
use Rattle.std.specs.Option.{option_map}
use Rattle.std.proofs.lemmas.Bool.{and_from, and_right, ltb-true}
use Rattle.std.proofs.lemmas.List.{length-map, map-append, take_all}
use Rattle.std.proofs.lemmas.Option.{slice_get-map}
use Rattle.pico_base.specs.declared.call.Call.TheVariants as calls
use Rattle.pico_base.specs.declared.reply.Errno.TheVariants.{Eagain, Enoent, Eexist, Enomsg}
use Rattle.pico_base.specs.declared.reply.Reply.TheVariants.{Num, Fail, Message}
use Rattle.number_maps.specs.Maps.{Numbered, get, put, used_with}
use Rattle.number_maps.specs.Rising.{IsRising}
use Rattle.kernel_model.specs.Effect.{is_fresh}
use Rattle.kernel_model.specs.Queue as plain_queues
use Rattle.kernel_model.specs.Queue.{Queue, Received, empty_queue, bytes_of, has_room, is_sendable, first_of_some, lowest_upto, receive_at, receive_from, take_message}
use Rattle.waiting_model.specs.declared.callers.Waiting.{Waiting}
use Rattle.waiting_model.specs.Waiters.{Awaited, attempt, unawaited, waiter}
use Rattle.waiting_model.specs.Queue.{try_queue, try_receive, carry_out_on_queue}
use Rattle.waiting_model.specs.Kernel.{Kernel}
use Rattle.waiting_model.specs.Plain.{AllValues, each}
use Rattle.waiting_model.specs.Effect.{refuse, reply_with}
use Rattle.waiting_model.specs.QueueCalls as plain_calls
use Rattle.waiting_model.specs.QueueCalls.{queue_effect}
use Rattle.waiting_laws.proofs.Maps.{put-each, all-put}
use Rattle.mq_model.specs.declared.errno.MqErrno.TheVariants.{Base}
use Rattle.mq_model.specs.Queue as mq_queues
use Rattle.mq_model.specs.Queue.{max_text, with_message, highest, oldest_of, oldest_of_highest}
use Rattle.mq_model.specs.Calls.{Open, Send, Receive, GetAttr, Number, Attributes}
use Rattle.mq_model.specs.Kernel.{MqKernel}
use Rattle.mq_model.specs.SystemV.{turned}
use Rattle.mq_model.specs.Transition as mq
use Rattle.mq_model.specs.Transition.{MqEffect, send_to, take_at, take_from}
use Rattle.mq_laws.specs.Alike.{StandsForQueue, shown_message, shown_queue, shown_kernel, stands_for_message}
use Rattle.mq_laws.proofs.OnQueues.{ComesTo, ComeTo, stays, looks, changes, queue-comes}
use Rattle.mq_laws.proofs.Messages.{Bounded, Lowest, bounded, bytes-bounded, lowest, same-place, map-remove, all-more, all-removed, all-there}

module _ (k : Kernel) (stand : AllValues StandsForQueue k.queues) (rising : IsRising k.queues) where
  -- ---- mqopen

  found-id : (name : ℕ) (create excl : Bool) (id : ℕ) (b : Bool)
      → ComesTo k (Open name create excl) (if b then refuse k Eexist else reply_with k id)
      (if b then mq.refuse (shown_kernel k) (Base Eexist) else mq.replying (shown_kernel k) (Number id))
  found-id name create excl id true = stays k stand rising 0 (Open name create excl) (λ r. refl) (Fail Eexist)
  found-id name create excl id false = stays k stand rising 0 (Open name create excl) (λ r. refl) (Num id)

  abbrev made_kernel : ℕ → ℕ → Kernel
  made_kernel name n =
      record k {
        queues = put k.queues n (unawaited empty_queue);
        queue_keys = put k.queue_keys name n;
        used_queues = used_with k.used_queues n;
      }

  made : (name : ℕ) (create excl : Bool) (n : ℕ) (b : Bool)
      → ComeTo k (Open name create excl) (if b then Some (reply_with (made_kernel name n) n) else None)
      (if b
      then Some (mq.replying
      (let m : MqKernel = shown_kernel k
      in record m {
        names = put k.queue_keys name n;
        queues = put (each shown_queue k.queues) n [];
        used_queues = used_with k.used_queues n;
      })
      (Number n))
      else None)
  made name create excl n false = tt
  made name create excl n true =
      record {
        kernel = made_kernel name n;
        reply = Num n;
        is = refl;
        processes = refl;
        shown =
            ap
            (λ (qs : Numbered mq_queues.Queue).
            (let m : MqKernel = shown_kernel (made_kernel name n) in mq.replying (record m { queues = qs }) (Number n)))
            (put-each shown_queue k.queues n (unawaited empty_queue));
        queues =
            all-put StandsForQueue k.queues n (unawaited empty_queue) stand
            (record { waiters = refl; qbytes = refl; messages = refl });
      }

  opened : (name : ℕ) (create excl : Bool) (n : ℕ) (o : Option ℕ)
      → ComeTo k (Open name create excl) (plain_calls.get_queue_at k name create excl n o)
      (mq.open_at (shown_kernel k) name create excl n o)
  opened name create excl n (Some id) = found-id name create excl id (create && excl)
  opened name true excl n None = made name true excl n (is_fresh k.used_queues n)
  opened name false excl n None = stays k stand rising 0 (Open name false excl) (λ r. refl) (Fail Enoent)

  pub opens : (name : ℕ) (create excl : Bool) (n : ℕ)
      → ComeTo k (Open name create excl) (plain_calls.get_queue k (Some name) create excl n)
      (mq.open_queue (shown_kernel k) name create excl n)
  opens name create excl n = opened name create excl n (get k.queue_keys name)

  -- ---- mqsend

  -- there is room for short texts up to 1,024 messages
  room : (q : Awaited Queue) → StandsForQueue q → (text : List ℕ) → length text ≤ 16
      → has_room q.state text ≡ nat_lt (length q.state.messages) 1024
  room q stands text short = by_test (nat_lt (length q.state.messages) 1024) refl
    where
      fits : length q.state.messages < 1024
          → nat_le (plain_queues.bytes_in q.state + length text) q.state.qbytes ≡ true
      fits few =
          let bytes : bytes_of q.state.messages ≤ 16 * length q.state.messages =
          bytes-bounded q.state.messages stands.messages
          in let most : plain_queues.bytes_in q.state + length text ≤ 16384 = omega (arith, bytes, few, short)
          in ap (nat_le (plain_queues.bytes_in q.state + length text)) stands.qbytes
          ∙ le-leb (plain_queues.bytes_in q.state + length text) 16384 most

      by_test : (b : Bool) → nat_lt (length q.state.messages) 1024 ≡ b
          → (nat_le (plain_queues.bytes_in q.state + length text) q.state.qbytes && b) ≡ b
      by_test true is =
          and_from (nat_le (plain_queues.bytes_in q.state + length text) q.state.qbytes) true
          (fits (ltb-true (length q.state.messages) 1024 is)) refl
      by_test false is = and_right (nat_le (plain_queues.bytes_in q.state + length text) q.state.qbytes) false refl

  module _ (id pid c : ℕ) (above : 1 ≤ c) (below : c ≤ 32) (text : List ℕ) (short : length text ≤ 16) where
    abbrev who : Waiting
    who = waiter pid (calls.MsgSnd id (pos c) text true)

    abbrev to_send : plain_queues.Message
    to_send = record { class = pos c; text = text }

    abbrev sent_to : Queue → Queue
    sent_to q = record q { messages = q.messages ++ to_send ∷ []; last_sender = pid }

    sendable : is_sendable (pos c) text ≡ true
    sendable =
        and_from (int_le (pos 1) (pos c)) (nat_le (length text) 4096) (le-leb 1 c above)
        (le-leb (length text) 4096 (omega arith))

    tried : (q : Queue) → has_room q text ≡ true
        → try_queue q pid (calls.MsgSnd id (pos c) text true) ≡ Some (attempt (sent_to q) (Num 0))
    tried q fits = rw (sendable, fits) refl

    stopped : (q : Queue) → has_room q text ≡ false
        → try_queue q pid (calls.MsgSnd id (pos c) text true) ≡ Some (attempt q (Fail Eagain))
    stopped q full = rw (sendable, full) refl

    new-message : stands_for_message to_send ≡ true
    new-message =
        and_from (nat_le 1 c && nat_le c 32) (nat_le (length text) max_text)
        (and_from (nat_le 1 c) (nat_le c 32) (le-leb 1 c above) (le-leb c 32 below)) (le-leb (length text) 16 short)

    sent-if : (q : Awaited Queue) → get k.queues id ≡ Some q → StandsForQueue q → (b : Bool)
        → nat_lt (length q.state.messages) 1024 ≡ b
        → ComesTo k (Send id (turned c) text) (queue_effect k id (carry_out_on_queue q who))
        (if b
        then mq.replying
        (mq.with_queue (shown_kernel k) id (with_message (shown_queue q) (turned c) text)) (Number 0)
        else mq.refuse (shown_kernel k) (Base Eagain))
    sent-if q there stands true is =
        subst
        (λ (ms : mq_queues.Queue).
        ComesTo k (Send id (turned c) text) (queue_effect k id (carry_out_on_queue q who))
        (mq.replying (mq.with_queue (shown_kernel k) id ms) (Number 0)))
        (map-append shown_message q.state.messages (to_send ∷ []))
        (changes k stand rising id (Send id (turned c) text) (λ r. refl) who q there (sent_to q.state) (Num 0)
        (tried q.state (room q stands text short ∙ is))
        (record {
          waiters = refl;
          qbytes = stands.qbytes;
          messages = all-more stands_for_message q.state.messages to_send stands.messages new-message;
        }))
    sent-if q there stands false is =
        looks k stand rising id (Send id (turned c) text) (λ r. refl) who q there (Fail Eagain)
        (stopped q.state (room q stands text short ∙ is))

    sent : (q : Awaited Queue) → get k.queues id ≡ Some q → StandsForQueue q
        → ComesTo k (Send id (turned c) text) (queue_effect k id (carry_out_on_queue q who))
        (send_to (shown_kernel k) id (turned c) text (shown_queue q))
    sent q there stands =
        sent-if q there stands (nat_lt (length (shown_queue q)) 1024)
        (ap (λ (n : ℕ). nat_lt n 1024) (sym (length-map q.state.messages shown_message)))

    pub sends : ComesTo k (Send id (turned c) text) (plain_calls.on_queue k id who)
        (mq.send (shown_kernel k) id (turned c) text)
    sends =
        let low : nat_lt 31 (turned c) ≡ false = le-ltb 31 (turned c) (omega arith)
        in let few : nat_lt 16 (length text) ≡ false = le-ltb 16 (length text) short
        in rw (low, few)
        (queue-comes k stand rising id (Send id (turned c) text) (λ r. refl) who
        (send_to (shown_kernel k) id (turned c) text) sent)

  -- ---- mqreceive

  -- the same message is due
  pub same-choice : (ms : List plain_queues.Message) → list_all stands_for_message ms ≡ true
      → first_of_some (lowest_upto (pos 32) ms) ms ≡ oldest_of_highest (map shown_message ms)
  same-choice [] all = refl
  same-choice (m ∷ ms) all =
      let l : Lowest (m ∷ ms) = lowest m ms all
      in ap (λ (o : Option ℤ). first_of_some o (m ∷ ms)) l.low
      ∙ (same-place l.class l.below (m ∷ ms) all
      ∙ ap (λ (p : ℕ). oldest_of p (map shown_message (m ∷ ms))) (sym l.high))

  module _ (id pid size : ℕ) (room_for : 16 ≤ size) where
    abbrev asks : Waiting
    asks = waiter pid (calls.MsgRcv id (negsuc 31) size false true)

    module _ (q : Awaited Queue) (there : get k.queues id ≡ Some q) (stands : StandsForQueue q) where
      chosen : (o : Option ℕ) → oldest_of_highest (shown_queue q) ≡ o
          → try_queue q.state pid (calls.MsgRcv id (negsuc 31) size false true)
          ≡ try_receive q.state true (receive_from q.state pid size false o)
      chosen o is =
          ap (λ (c : Option ℕ). try_receive q.state true (receive_from q.state pid size false c))
          (same-choice q.state.messages stands.messages ∙ is)

      none : try_queue q.state pid (calls.MsgRcv id (negsuc 31) size false true) ≡ Some (attempt q.state (Fail Enomsg))
          → ComesTo k (Receive id size) (queue_effect k id (carry_out_on_queue q asks))
          (mq.refuse (shown_kernel k) (Base Eagain))
      none is = looks k stand rising id (Receive id size) (λ r. refl) asks q there (Fail Enomsg) is

      abbrev left : ℕ → Queue
      left place =
          let s : Queue = q.state in record s { messages = remove q.state.messages place; last_receiver = pid }

      -- the message at a place is taken
      one : (place : ℕ) (m : plain_queues.Message) → slice_get q.state.messages place ≡ Some m
          → try_queue q.state pid (calls.MsgRcv id (negsuc 31) size false true)
          ≡ try_receive q.state true (receive_at q.state pid size false place (Some m))
          → ComesTo k (Receive id size) (queue_effect k id (carry_out_on_queue q asks))
          (take_at (shown_kernel k) id (shown_queue q) place (Some (shown_message m)))
      one place m at is =
          let b : Bounded m =
          bounded m (all-there stands_for_message q.state.messages place m stands.messages at)
          in let short : length m.text ≤ size = let s : length m.text ≤ 16 = b.short in omega (arith, s, room_for)
          in let fits : nat_le (length m.text) size ≡ true = le-leb (length m.text) size short
          in let tried : try_receive q.state true (receive_at q.state pid size false place (Some m))
          ≡ Some (attempt (left place) (Message m.class (take size m.text))) = rw fits refl
          in subst
          (λ (f : MqEffect). ComesTo k (Receive id size) (queue_effect k id (carry_out_on_queue q asks)) f)
          (rw (map-remove shown_message q.state.messages place, take_all size m.text short, b.is) refl)
          (changes k stand rising id (Receive id size) (λ r. refl) asks q there (left place)
          (Message m.class (take size m.text)) (is ∙ tried)
          (record {
            waiters = refl;
            qbytes = stands.qbytes;
            messages = all-removed stands_for_message q.state.messages place stands.messages;
          }))

      at-place : (place : ℕ) (o : Option plain_queues.Message) → slice_get q.state.messages place ≡ o
          → try_queue q.state pid (calls.MsgRcv id (negsuc 31) size false true)
          ≡ try_receive q.state true (receive_at q.state pid size false place o)
          → ComesTo k (Receive id size) (queue_effect k id (carry_out_on_queue q asks))
          (take_at (shown_kernel k) id (shown_queue q) place (option_map shown_message o))
      at-place place None at is = none is
      at-place place (Some m) at is = one place m at is

      taken : (o : Option ℕ) → oldest_of_highest (shown_queue q) ≡ o
          → ComesTo k (Receive id size) (queue_effect k id (carry_out_on_queue q asks))
          (take_from (shown_kernel k) id (shown_queue q) o)
      taken None is = none (chosen None is)
      taken (Some place) is =
          subst
          (λ (o : Option mq_queues.Message).
          ComesTo k (Receive id size) (queue_effect k id (carry_out_on_queue q asks))
          (take_at (shown_kernel k) id (shown_queue q) place o))
          (sym (slice_get-map shown_message q.state.messages place))
          (at-place place (slice_get q.state.messages place) refl (chosen (Some place) is))

    pub receives : ComesTo k (Receive id size) (plain_calls.on_queue k id asks)
        (mq.receive (shown_kernel k) id size)
    receives =
        let enough : nat_lt size 16 ≡ false = le-ltb size 16 room_for
        in rw enough
        (queue-comes k stand rising id (Receive id size) (λ r. refl) asks
        (λ q. take_from (shown_kernel k) id q (oldest_of_highest q))
        (λ q there stands. taken q there stands (oldest_of_highest (shown_queue q)) refl))

  -- ---- mqgetattr

  pub looks-at : (id pid : ℕ)
      → ComesTo k (GetAttr id) (plain_calls.on_queue k id (waiter pid (calls.MsgStat id)))
      (mq.attributes (shown_kernel k) id)
  looks-at id pid =
      queue-comes k stand rising id (GetAttr id) (λ r. refl) (waiter pid (calls.MsgStat id))
      (λ q. mq.replying (shown_kernel k) (Attributes (length q)))
      (λ q there stands.
      subst
      (λ (n : ℕ).
      ComesTo k (GetAttr id) (queue_effect k id (carry_out_on_queue q (waiter pid (calls.MsgStat id))))
      (mq.replying (shown_kernel k) (Attributes n)))
      (sym (length-map q.state.messages shown_message))
      (looks k stand rising id (GetAttr id) (λ r. refl) (waiter pid (calls.MsgStat id)) q there
      (plain_queues.stat q.state) refl))
