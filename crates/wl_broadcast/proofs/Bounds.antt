-- Limits of a tab's channels, over any calls.
use Rattle.std.proofs.Common.{◌≡◌, ℕ, zero, suc, ◌+◌, ◌<◌, ◌≤◌, Bool, true, false, not, ◌&&◌, ◌==◌, cond, if◌then◌else◌, nat_le, subst, List, [], ◌∷◌, ◌++◌, length, count_by, Option, Some, None, is_some, refl, sym, ap, ◌∙◌, arith}
use Rattle.std.specs.List.{AllByRecursion}
use Rattle.std.proofs.lemmas.Bool.{and_parts}
use Rattle.std.proofs.lemmas.Bool.Decides.{nat_tests}
use Rattle.std.proofs.lemmas.List.{length-append}
use Rattle.std.proofs.lemmas.List.Sums.{length-filter, count_by-le-length}
use Rattle.wl_broadcast.specs.declared.letter.Letter.{Letter}
use Rattle.wl_broadcast.specs.declared.fault.ChannelFault.TheVariants.{NameTooLong, DataTooLong, TooManyChannels, PostsUsedUp}
use Rattle.wl_broadcast.specs.declared.fault.ChannelFault.{ChannelFault}
use Rattle.wl_broadcast.specs.Channels.{Object, ChannelState, no_channels, channel_limit, inbox_limit, post_limit, open_count, new_object, is_destination, has_room, delivered_from, changed_at, inbox_at, name_at, opened, posted, heard, is_old, is_own, open_refusal, post_refusal, read_at, closed_at, rest_of}
use Rattle.wl_broadcast.specs.OpenObjects.{open_from}
use Rattle.wl_broadcast.specs.Heard.{Call, Opens, Posts, Hears, Reads, Closes, step, after, NeverTooManyOpen, NeverTooManyWait, NeverTooManyPosts}
use Rattle.wl_broadcast.proofs.Numbered.{inbox_at-suc, changed_at-suc, length-open, open-pushed, open-delivered, open-read, open-closed_at}
use Rattle.wl_broadcast.proofs.Gained.{either, read, close}

-- Open objects

open_count_of : (k : ℕ) (os ps : List Object) → open_from k ps ≡ open_from k os → count_by (λ o. o.is_open) ps ≡ count_by (λ o. o.is_open) os
open_count_of k os ps e = sym (length-open k ps) ∙ ap length e ∙ length-open k os

one_more_open : (os : List Object) (name : List ℕ) → count_by (λ o. o.is_open) (os ++ new_object name ∷ []) ≡ count_by (λ o. o.is_open) os + 1
one_more_open os name =
    sym (length-open 0 (os ++ new_object name ∷ [])) ∙ ap length (open-pushed 0 os (new_object name) refl) ∙ length-append (open_from 0 os) ((0 + length os) ∷ []) ∙ ap (λ n. n + 1) (length-open 0 os)

fewer_open : (n : ℕ) (os : List Object) → count_by (λ o. o.is_open) (changed_at n close os) ≤ count_by (λ o. o.is_open) os
fewer_open n os =
    let other : ℕ → Bool = λ j. not (j == n) in
    omega (arith, length-open 0 (changed_at n close os), ap length (open-closed_at n os), length-filter other (open_from 0 os), count_by-le-length other (open_from 0 os), length-open 0 os)

-- Inboxes

abbrev HasFew : Object → Type 0
HasFew o = length o.inbox ≤ inbox_limit

few_after : (sender : Option ℕ) (name : List ℕ) (letter : Letter) (k : ℕ) (o : Object) (b : Bool) → (is_destination sender name k o && has_room o) ≡ b → HasFew o → HasFew (cond b (record o { inbox = o.inbox ++ letter ∷ [] }) o)
few_after sender name letter k o true e few =
    let room : has_room o ≡ true = (and_parts (is_destination sender name k o) (has_room o) e).1 in
    let below : length o.inbox < inbox_limit = grind (arith, nat_tests) in
    omega (arith, length-append o.inbox (letter ∷ []))
few_after sender name letter k o false e few = few

few_delivered : (sender : Option ℕ) (name : List ℕ) (letter : Letter) (k : ℕ) (os : List Object) → AllByRecursion HasFew os → AllByRecursion HasFew (delivered_from k sender name letter os)
few_delivered sender name letter k [] few = tt
few_delivered sender name letter k (o ∷ os) few =
    (few_after sender name letter k o (is_destination sender name k o && has_room o) refl few.0, few_delivered sender name letter (k + 1) os few.1)

few_changed : (f : Object → Object) → ((o : Object) → HasFew o → HasFew (f o)) → (j : ℕ) (os : List Object) → AllByRecursion HasFew os → AllByRecursion HasFew (changed_at j f os)
few_changed f less j [] few = tt
few_changed f less zero (o ∷ os) few = (less o few.0, few.1)
few_changed f less (suc j) (o ∷ os) few = subst (AllByRecursion HasFew) (sym (changed_at-suc f o os j)) (few.0, few_changed f less j os few.1)

few_opened : (os : List Object) (o : Object) → AllByRecursion HasFew os → HasFew o → AllByRecursion HasFew (os ++ o ∷ [])
few_opened [] o few one = (one, tt)
few_opened (p ∷ ps) o few one = (few.0, few_opened ps o few.1 one)

few_rest : (ls : List Letter) → length ls ≤ inbox_limit → length (rest_of ls) ≤ inbox_limit
few_rest [] few = few
few_rest (l ∷ ls) few = omega arith

few_at : (os : List Object) (k : ℕ) → AllByRecursion HasFew os → length (inbox_at os k) ≤ inbox_limit
few_at [] k few = omega arith
few_at (o ∷ os) zero few = few.0
few_at (o ∷ os) (suc k) few = omega (arith, ap length (inbox_at-suc o os k), few_at os k few.1)

-- Refusals

room_by : (a b : Bool) (rest : Option ChannelFault) → is_some (if a then Some NameTooLong else (if b then Some TooManyChannels else None)) ≡ false → b ≡ false
room_by true b rest e = cc
room_by false true rest e = cc
room_by false false rest e = refl

posts_by : (a b : Bool) (rest : Option ChannelFault) → is_some (if a then Some DataTooLong else (if b then Some PostsUsedUp else rest)) ≡ false → b ≡ false
posts_by true b rest e = cc
posts_by false true rest e = cc
posts_by false false rest e = refl

below : (n limit : ℕ) → nat_le limit n ≡ false → n + 1 ≤ limit
below n limit e = grind (arith, nat_tests)

-- Any calls

record IsBounded (c : ChannelState) : Type 0 where
  objects : open_count c ≤ channel_limit
  inboxes : AllByRecursion HasFew c.objects
  posts : c.posts ≤ post_limit

bounded_step : (call : Call) (c : ChannelState) → IsBounded c → IsBounded (step call c)
bounded_step (Opens name) c is =
    either (is_some (open_refusal name c)) IsBounded c (opened name c) (λ _. is)
    (λ allowed. record {
      objects = omega (arith, one_more_open c.objects name, below (open_count c) channel_limit (room_by _ (nat_le channel_limit (open_count c)) None allowed));
      inboxes = few_opened c.objects (new_object name) is.inboxes (omega arith);
      posts = is.posts;
    })
bounded_step (Posts k bytes) c is =
    let letter : Letter = record { source = c.tab; number = c.posts; bytes = bytes } in
    either (is_some (post_refusal c.tab k bytes c)) IsBounded c (posted k bytes c) (λ _. is)
    (λ allowed. record {
      objects = omega (arith, open_count_of 0 c.objects (posted k bytes c).objects (open-delivered (Some k) (name_at c.objects k) letter 0 c.objects), is.objects);
      inboxes = few_delivered (Some k) (name_at c.objects k) letter 0 c.objects is.inboxes;
      posts = below c.posts post_limit (posts_by _ (nat_le post_limit c.posts) _ allowed);
    })
bounded_step (Hears h) c is =
    let letter : Letter = record { source = h.source; number = h.number; bytes = h.bytes } in
    either (is_old c h.source h.number) IsBounded c (heard h c) (λ _. is)
    (λ _. record {
      objects = omega (arith, open_count_of 0 c.objects (heard h c).objects (open-delivered None h.channel letter 0 c.objects), is.objects);
      inboxes = few_delivered None h.channel letter 0 c.objects is.inboxes;
      posts = is.posts;
    })
bounded_step (Reads k) c is =
    either (is_own c c.tab k) IsBounded (read_at k c) c
    (λ _. record {
      objects = omega (arith, open_count_of 0 c.objects (read_at k c).objects (open-read 0 k c.objects), is.objects);
      inboxes = few_changed read (λ o few. few_rest o.inbox few) k c.objects is.inboxes;
      posts = is.posts;
    }) (λ _. is)
bounded_step (Closes k) c is =
    either (is_own c c.tab k) IsBounded (closed_at k c) c
    (λ _. record {
      objects = omega (arith, fewer_open k c.objects, is.objects);
      inboxes = few_changed close (λ o few. omega arith) k c.objects is.inboxes;
      posts = is.posts;
    }) (λ _. is)

bounded_after : (calls : List Call) (c : ChannelState) → IsBounded c → IsBounded (after calls c)
bounded_after [] c is = is
bounded_after (call ∷ calls) c is = bounded_after calls (step call c) (bounded_step call c is)

bounded : (tab : ℕ) (calls : List Call) → IsBounded (after calls (no_channels tab))
bounded tab calls = bounded_after calls (no_channels tab) (record { objects = omega arith; inboxes = tt; posts = omega arith })

pub never_too_many_open : NeverTooManyOpen
never_too_many_open tab calls = (bounded tab calls).objects

pub never_too_many_wait : NeverTooManyWait
never_too_many_wait tab k calls = few_at (after calls (no_channels tab)).objects k (bounded tab calls).inboxes

pub never_too_many_posts : NeverTooManyPosts
never_too_many_posts tab calls = (bounded tab calls).posts
