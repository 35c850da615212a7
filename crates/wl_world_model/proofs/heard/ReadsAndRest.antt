-- Reads: the posts that an object took are those read from it, followed by a rest that is its inbox while it is open.
use Rattle.std.proofs.Common.{◌≡◌, ◌≢◌, ◌⊎◌, inl, inr, ⊎_elim, ℕ, zero, suc, ◌+◌, ◌<◌, Bool, true, false, cond, ◌&&◌, List, [], ◌∷◌, ◌++◌, length, drop, Option, Some, None, is_some, refl, sym, ap, ap₂, ◌∙◌, subst, append_assoc, append-nil, arith}
use Rattle.std.specs.Prelude.{◌==◌, nat_lt}
use Rattle.std.proofs.lemmas.Bool.{and_parts, and_left, and_right, and_from, cases_eq, cases_lt, cases_Bool, eq-eqb, eqb-true, ne_eqb, lt-ltb, cond-true, cond-false}
use Rattle.std.proofs.lemmas.List.{drop_all, drop_at}
use Rattle.wl_draft.specs.Tables.{find}
use Rattle.wl_draft.proofs.TableLemmas.{find-put_same, find-put_other}
use Rattle.wl_broadcast.specs.declared.letter.Letter.{Letter}
use Rattle.wl_broadcast.specs.Channels.{ChannelState, Object, new_object, is_destination, has_room, delivered_to, delivered_from, changed_at, first_of, rest_of, opened, open_refusal, post_refusal, posted, heard, is_old, is_own, read_at, closed_at, name_at, inbox_at, is_open_at}
use Rattle.wl_broadcast.specs.Heard.{Call, Opens, Posts, Hears, Reads, Closes, step}
use Rattle.wl_broadcast.proofs.Numbered.{inbox_at-suc, is_open_at-suc, changed_at-suc}
use Rattle.wl_broadcast.proofs.Gained.{step_stays}
use Rattle.wl_broadcast.proofs.Received.{changed_other}
use Rattle.wl_world_messages.specs.declared.effect.Effect.{Effect}
use Rattle.wl_world_messages.specs.declared.effect.Refusal.TheVariants as refusal
use Rattle.wl_world_messages.specs.Refused.{refused}
use Rattle.wl_draft.proofs.Membership.{apart, either, by_test}
use Rattle.wl_tab.specs.Tabs.{channels_in}
use Rattle.wl_world_model.specs.declared.event.Event.{Event}
use Rattle.wl_world_model.specs.declared.event.Event.TheVariants as event
use Rattle.wl_world_model.specs.World.{WorldState, empty_world, channels_of, lives, StepResult, unchanged, if_allowed, becomes, step_result, after_event, run}
use Rattle.wl_world_model.specs.Replies.{open_or, read_letter, reading, said_of, reply_of}
use Rattle.wl_world_model.specs.Heard.{objects_of, takes_at, taken_in, letters_in, told_by, read_in, HeardTillClosedForAll, HeardIsReadForAll}
use Rattle.wl_world_model.proofs.heard.ChannelSteps.{Caused, Owned, Calling, stays, called, calling, happens-owned}
use Rattle.wl_world_model.proofs.heard.PostsRise.{open-there, empty-owned, run-owned, taken-closed}

-- Inboxes

-- The old inbox is a prefix of the new one.
abbrev Grows : List Letter → List Letter → Type 0
Grows old new = (more : List Letter) × (new ≡ old ++ more)

same-grows : (old new : List Letter) → new ≡ old → Grows old new
same-grows old new e = ([], e ∙ sym (append-nil old))

delivered-grows : (sender : Option ℕ) (name : List ℕ) (letter : Letter) (m : ℕ) (os : List Object) (k : ℕ) → Grows (inbox_at os k) (inbox_at (delivered_from m sender name letter os) k)
delivered-grows sender name letter m [] k = ([], refl)
delivered-grows sender name letter m (o ∷ os) zero =
    either (λ z. Grows o.inbox z.inbox) (is_destination sender name m o && has_room o) (record o { inbox = o.inbox ++ letter ∷ [] }) o
    (λ _. (letter ∷ [], refl)) (λ _. same-grows o.inbox o.inbox refl)
delivered-grows sender name letter m (o ∷ os) (suc k) =
    let r = delivered-grows sender name letter (m + 1) os k in
    (r.0, inbox_at-suc (delivered_to sender name letter m o) (delivered_from (m + 1) sender name letter os) k ∙ r.1 ∙ ap (λ z. z ++ r.0) (sym (inbox_at-suc o os k)))

opened-inbox : (os : List Object) (name : List ℕ) (k : ℕ) → inbox_at (os ++ new_object name ∷ []) k ≡ inbox_at os k
opened-inbox [] name zero = refl
opened-inbox [] name (suc k) = inbox_at-suc (new_object name) [] k
opened-inbox (o ∷ os) name zero = refl
opened-inbox (o ∷ os) name (suc k) = inbox_at-suc o (os ++ new_object name ∷ []) k ∙ opened-inbox os name k ∙ sym (inbox_at-suc o os k)

abbrev one_read : Object → Object
one_read o = record o { inbox = rest_of o.inbox }

abbrev one_closed : Object → Object
one_closed o = record o { is_open = false; inbox = [] }

read-inbox : (k : ℕ) (os : List Object) → inbox_at (changed_at k one_read os) k ≡ rest_of (inbox_at os k)
read-inbox k [] = refl
read-inbox zero (o ∷ os) = refl
read-inbox (suc k) (o ∷ os) =
    ap (λ z. inbox_at z (suc k)) (changed_at-suc one_read o os k) ∙ inbox_at-suc o (changed_at k one_read os) k ∙ read-inbox k os ∙ ap rest_of (sym (inbox_at-suc o os k))

closed-closed : (k : ℕ) (os : List Object) → is_open_at (changed_at k one_closed os) k ≡ false
closed-closed k [] = refl
closed-closed zero (o ∷ os) = refl
closed-closed (suc k) (o ∷ os) = ap (λ z. is_open_at z (suc k)) (changed_at-suc one_closed o os k) ∙ is_open_at-suc o (changed_at k one_closed os) k ∙ closed-closed k os

-- One event

-- The object is not closed.
abbrev NotClosed : ℕ → ChannelState → Type 0
NotClosed k d = k < length d.objects → is_open_at d.objects k ≡ false → ⊥

called-grows : (w : WorldState) (e : Event) (t k : ℕ) → ((j : ℕ) → e ≡ event.Read t j → ⊥) → (call : Call) → Caused w t e call → NotClosed k (step call (channels_of w t))
    → Grows (inbox_at (objects_of w t) k) (inbox_at (step call (channels_of w t)).objects k)
called-grows w e t k unread (Opens name) cause still =
    let c = channels_of w t in
    either (λ (d : ChannelState). Grows (inbox_at c.objects k) (inbox_at d.objects k)) (is_some (open_refusal name c)) c (opened name c)
    (λ _. same-grows _ _ refl) (λ _. same-grows _ _ (opened-inbox c.objects name k))
called-grows w e t k unread (Posts j bytes) cause still =
    let c = channels_of w t in
    either (λ (d : ChannelState). Grows (inbox_at c.objects k) (inbox_at d.objects k)) (is_some (post_refusal c.tab j bytes c)) c (posted j bytes c)
    (λ _. same-grows _ _ refl) (λ _. delivered-grows (Some j) (name_at c.objects j) (record { source = c.tab; number = c.posts; bytes = bytes }) 0 c.objects k)
called-grows w e t k unread (Hears x) cause still =
    let c = channels_of w t in
    either (λ (d : ChannelState). Grows (inbox_at c.objects k) (inbox_at d.objects k)) (is_old c x.source x.number) c (heard x c)
    (λ _. same-grows _ _ refl) (λ _. delivered-grows None x.channel (record { source = x.source; number = x.number; bytes = x.bytes }) 0 c.objects k)
called-grows w e t k unread (Reads j) cause still = absurd (unread j cause)
called-grows w e t k unread (Closes j) cause still =
    let c = channels_of w t in
    either (λ (d : ChannelState). NotClosed k d → Grows (inbox_at c.objects k) (inbox_at d.objects k)) (is_own c c.tab j) (closed_at j c) c
    (λ own still. ⊎_elim
    (λ same. absurd (still_open c j k same own still))
    (λ other. same-grows _ _ (changed_other one_closed j k c.objects other))
    (cases_eq j k))
    (λ _ _. same-grows _ _ refl)
    still
  where
    closed-there : (c : ChannelState) (j k : ℕ) → is_own c c.tab j ≡ true → k < length c.objects → k < length (closed_at j c).objects
    closed-there c j k own l = subst (λ (d : ChannelState). k < length d.objects) (cond-true (is_own c c.tab j) (closed_at j c) c own) (step_stays c k (Closes j) l).there

    still_open : (c : ChannelState) (j k : ℕ) → j ≡ k → is_own c c.tab j ≡ true → NotClosed k (closed_at j c) → ⊥
    still_open c j k same own still =
        let was : is_open_at c.objects k ≡ true = subst (λ z. is_open_at c.objects z ≡ true) same (and_parts (c.tab == c.tab) (is_open_at c.objects j) own).1 in
        let there : k < length (closed_at j c).objects = closed-there c j k own (open-there c.objects k was) in
        still there (subst (λ z. is_open_at (changed_at z one_closed c.objects) k ≡ false) (sym same) (closed-closed k c.objects))

-- The oldest post in the inbox, if there is one.
abbrev oldest : List Letter → List Letter
oldest [] = []
oldest (l ∷ ls) = l ∷ []

abbrev may_read : WorldState → ℕ → ℕ → Bool
may_read w t k = lives w t && is_own (channels_of w t) t k

-- The posts read from the object at an event.
abbrev reads_at : ℕ → ℕ → WorldState → Event → List Letter
reads_at t k w (event.Read u j) = cond ((u == t && j == k) && may_read w t k) (oldest (inbox_at (objects_of w t) k)) []
reads_at t k w e = []

abbrev reads_in : ℕ → ℕ → List Event → WorldState → List Letter
reads_in t k [] w = []
reads_in t k (e ∷ es) w = reads_at t k w e ++ reads_in t k es (after_event w e)

-- The old inbox with the posts taken equals the posts read with the new inbox.
abbrev Tells : ℕ → ℕ → WorldState → Event → Type 0
Tells t k w e = inbox_at (objects_of w t) k ++ takes_at t k w e ≡ reads_at t k w e ++ inbox_at (objects_of (after_event w e) t) k

grown-tells : (old new : List Letter) → Grows old new → old ++ drop (length old) new ≡ new
grown-tells old new g = ap (λ z. old ++ drop (length old) z) g.1 ∙ ap (λ z. old ++ z) (drop_at old g.0 (length old) refl) ∙ sym g.1

unread-tells : (w : WorldState) (e : Event) (t k : ℕ) → ((j : ℕ) → e ≡ event.Read t j → ⊥) → reads_at t k w e ≡ [] → Calling t w e → NotClosed k (channels_of (after_event w e) t) → Tells t k w e
unread-tells w e t k unread none (stays s) still =
    grown-tells _ _ (same-grows _ _ (ap (λ z. inbox_at z.objects k) s)) ∙ ap (λ z. z ++ inbox_at (objects_of (after_event w e) t) k) (sym none)
unread-tells w e t k unread none (called call s cause) still =
    grown-tells _ _ (subst (λ z. Grows (inbox_at (objects_of w t) k) (inbox_at z.objects k)) (sym s) (called-grows w e t k unread call cause (subst (NotClosed k) s still)))
    ∙ ap (λ z. z ++ inbox_at (objects_of (after_event w e) t) k) (sym none)

same-tells : (w : WorldState) (e : Event) (t k : ℕ) → channels_of (after_event w e) t ≡ channels_of w t → reads_at t k w e ≡ [] → Tells t k w e
same-tells w e t k s none = grown-tells _ _ (same-grows _ _ (ap (λ z. inbox_at z.objects k) s)) ∙ ap (λ z. z ++ inbox_at (objects_of (after_event w e) t) k) (sym none)

-- Reads

oldest-rest : (ls : List Letter) → ls ++ drop (length ls) (rest_of ls) ≡ oldest ls ++ rest_of ls
oldest-rest [] = refl
oldest-rest (l ∷ ls) = ap (λ z. (l ∷ ls) ++ z) (drop_all (length (l ∷ ls)) ls (omega arith)) ∙ append-nil (l ∷ ls)

read-other : (w : WorldState) (u j t : ℕ) → u ≢ t → channels_of (after_event w (event.Read u j)) t ≡ channels_of w t
unfolding after_event step_result becomes
read-other w u j t n =
    either (λ (d : StepResult). channels_in t (find d.world.channels t) ≡ channels_of w t) (may_read w u j) (becomes w u (read_at j (channels_of w u)) []) (unchanged w)
    (λ _. ap (channels_in t) (find-put_other u (read_at j (channels_of w u)) w.channels t (λ e. n (sym e)))) (λ _. refl)

read-own : (w : WorldState) (t j : ℕ) → channels_of (after_event w (event.Read t j)) t ≡ cond (may_read w t j) (read_at j (channels_of w t)) (channels_of w t)
unfolding after_event step_result becomes
read-own w t j =
    by_test (λ b. channels_in t (find (if_allowed b w (becomes w t (read_at j (channels_of w t)) [])).world.channels t) ≡ cond b (read_at j (channels_of w t)) (channels_of w t)) (may_read w t j)
    (λ _. ap (channels_in t) (find-put_same t (read_at j (channels_of w t)) w.channels)) (λ _. refl)

own-tells : (w : WorldState) (t j k : ℕ) → Tells t k w (event.Read t j)
own-tells w t j k = ⊎_elim
    (λ s. ⊎_elim
    (λ y. let d = read-own w t j ∙ cond-true _ _ _ y in
    let i = inbox_at (objects_of w t) k in
    let after : inbox_at (objects_of (after_event w (event.Read t j)) t) k ≡ rest_of i = ap (λ z. inbox_at z.objects k) d ∙ subst (λ z. inbox_at (changed_at z one_read (objects_of w t)) k ≡ rest_of i) (sym s) (read-inbox k (objects_of w t)) in
    let test : ((t == t && j == k) && may_read w t k) ≡ true = and_from (t == t && j == k) (may_read w t k) (and_from (t == t) (j == k) (eq-eqb t t refl) (eq-eqb j k s)) (subst (λ z. may_read w t z ≡ true) s y) in
    ap (λ z. i ++ drop (length i) z) after ∙ oldest-rest i ∙ ap₂ ◌++◌ (sym (cond-true _ _ _ test)) (sym after))
    (λ n. same-tells w (event.Read t j) t k (read-own w t j ∙ cond-false _ _ _ n) (cond-false _ _ _ (and_right (t == t && j == k) (may_read w t k) (subst (λ z. may_read w t z ≡ false) s n))))
    (cases_Bool (may_read w t j)))
    (λ n. let none = cond-false ((t == t && j == k) && may_read w t k) (oldest (inbox_at (objects_of w t) k)) [] (and_left (t == t && j == k) (may_read w t k) (and_right (t == t) (j == k) (ne_eqb j k n))) in
    grown-tells _ _ (same-grows _ _ (ap (λ z. inbox_at z.objects k) (read-own w t j)
    ∙ either (λ (d : ChannelState). inbox_at d.objects k ≡ inbox_at (objects_of w t) k) (may_read w t j) (read_at j (channels_of w t)) (channels_of w t) (λ _. changed_other one_read j k (objects_of w t) n) (λ _. refl)))
    ∙ ap (λ z. z ++ inbox_at (objects_of (after_event w (event.Read t j)) t) k) (sym none))
    (cases_eq j k)

tells : (w : WorldState) (e : Event) (t k : ℕ) → Owned w → NotClosed k (channels_of (after_event w e) t) → Tells t k w e
tells w (event.Read u j) t k own still = ⊎_elim
    (λ s. subst (λ z. Tells t k w (event.Read z j)) (sym s) (own-tells w t j k))
    (λ n. same-tells w (event.Read u j) t k (read-other w u j t n)
    (cond-false _ _ _ (and_left (u == t && j == k) (may_read w t k) (and_left (u == t) (j == k) (ne_eqb u t n)))))
    (cases_eq u t)
tells w e t k own still = unread-tells w e t k (λ j s. cc) refl (calling t w e own) still

-- Closed objects

-- A closed object stays closed.
closed-still : (w : WorldState) (e : Event) (t k : ℕ) → Calling t w e → k < length (objects_of w t) → is_open_at (objects_of w t) k ≡ false
    → (k < length (objects_of (after_event w e) t)) × (is_open_at (objects_of (after_event w e) t) k ≡ false)
closed-still w e t k (stays s) there closed = (subst (λ z. k < length z.objects) (sym s) there, ap (λ z. is_open_at z.objects k) s ∙ closed)
closed-still w e t k (called call s cause) there closed =
    let d = step_stays (channels_of w t) k call there in
    (subst (λ z. k < length z.objects) (sym s) d.there, ap (λ z. is_open_at z.objects k) s ∙ d.closed closed)

stays-closed : (es : List Event) (w : WorldState) (t k : ℕ) → Owned w → k < length (objects_of w t) → is_open_at (objects_of w t) k ≡ false → is_open_at (objects_of (run es w) t) k ≡ false
stays-closed [] w t k own there closed = closed
stays-closed (e ∷ es) w t k own there closed =
    let d = closed-still w e t k (calling t w e own) there closed in
    stays-closed es (after_event w e) t k (happens-owned w e own) d.0 d.1

-- No post is read from a closed object.
closed-unread : (w : WorldState) (e : Event) (t k : ℕ) → is_open_at (objects_of w t) k ≡ false → reads_at t k w e ≡ []
closed-unread w (event.Read u j) t k closed =
    let c = channels_of w t in
    cond-false _ _ _ (and_right (u == t && j == k) (may_read w t k) (and_right (lives w t) (is_own c t k) (and_right (t == c.tab) (is_open_at c.objects k) closed)))
closed-unread w e t k closed = refl

reads-closed : (es : List Event) (w : WorldState) (t k : ℕ) → Owned w → k < length (objects_of w t) → is_open_at (objects_of w t) k ≡ false → reads_in t k es w ≡ []
reads-closed [] w t k own there closed = refl
reads-closed (e ∷ es) w t k own there closed =
    let d = closed-still w e t k (calling t w e own) there closed in
    ap₂ ◌++◌ (closed-unread w e t k closed) (reads-closed es (after_event w e) t k (happens-owned w e own) d.0 d.1)

-- Whole lists

-- The inbox with the posts taken at these events equals the posts read with a rest. The rest is the inbox
-- while the object is open.
record IsReadIn (es : List Event) (w : WorldState) (t k : ℕ) : Type 0 where
  rest : List Letter
  took : inbox_at (objects_of w t) k ++ taken_in t k es w ≡ reads_in t k es w ++ rest
  waits : is_open_at (objects_of (run es w) t) k ≡ true → rest ≡ inbox_at (objects_of (run es w) t) k

-- The posts read at an event are a prefix of the inbox.
abbrev HasFront : List Letter → List Letter → Type 0
HasFront all front = (rest : List Letter) × (all ≡ front ++ rest)

oldest-front : (ls more : List Letter) → HasFront (ls ++ more) (oldest ls)
oldest-front [] more = (more, refl)
oldest-front (l ∷ ls) more = (ls ++ more, refl)

reads-front : (w : WorldState) (e : Event) (t k : ℕ) (more : List Letter) → HasFront (inbox_at (objects_of w t) k ++ more) (reads_at t k w e)
reads-front w (event.Read u j) t k more =
    let ls = inbox_at (objects_of w t) k in
    either (HasFront (ls ++ more)) ((u == t && j == k) && may_read w t k) (oldest ls) [] (λ _. oldest-front ls more) (λ _. (ls ++ more, refl))
reads-front w e t k more = (inbox_at (objects_of w t) k ++ more, refl)

abbrev IsClosed : ℕ → ChannelState → Type 0
IsClosed k d = (k < length d.objects) × (is_open_at d.objects k ≡ false)

closed-or_not : (d : ChannelState) (k : ℕ) → IsClosed k d ⊎ NotClosed k d
closed-or_not d k = ⊎_elim
    (λ still. inr (λ _ closed. apart still closed))
    (λ closed. ⊎_elim (λ there. inl (there, closed)) (λ beyond. inr (λ there _. absurd (omega (arith, there, beyond)))) (cases_lt k (length d.objects)))
    (cases_Bool (is_open_at d.objects k))

run-read : (es : List Event) (w : WorldState) (t k : ℕ) → Owned w → IsReadIn es w t k
run-read [] w t k own = record { rest = inbox_at (objects_of w t) k; took = append-nil (inbox_at (objects_of w t) k); waits = λ _. refl }
run-read (e ∷ es) w t k own =
    let v = after_event w e in
    let own' = happens-owned w e own in
    ⊎_elim
    (λ closed. let front = reads-front w e t k (takes_at t k w e ++ taken_in t k es v) in
    record {
      rest = front.0;
      took = front.1 ∙ ap (λ z. z ++ front.0) (sym (append-nil (reads_at t k w e)) ∙ ap (λ z. reads_at t k w e ++ z) (sym (reads-closed es v t k own' closed.0 closed.1)));
      waits = λ still. absurd (apart still (stays-closed es v t k own' closed.0 closed.1));
    })
    (λ still. let later = run-read es v t k own' in
    record {
      rest = later.rest;
      took =
          sym (append_assoc (inbox_at (objects_of w t) k) (takes_at t k w e) (taken_in t k es v))
          ∙ ap (λ z. z ++ taken_in t k es v) (tells w e t k own still)
          ∙ append_assoc (reads_at t k w e) (inbox_at (objects_of v t) k) (taken_in t k es v)
          ∙ ap (λ z. reads_at t k w e ++ z) later.took
          ∙ sym (append_assoc (reads_at t k w e) (reads_in t k es v) later.rest);
      waits = later.waits;
    })
    (closed-or_not (channels_of v t) k)

-- Reads as the replies say

first-said : (ls : List Letter) → letters_in (read_letter (first_of ls)) ≡ oldest ls
first-said [] = refl
first-said (l ∷ ls) = refl

open-said : (c : ChannelState) (t k : ℕ) → letters_in (open_or c t k (read_letter (first_of (inbox_at c.objects k)))) ≡ cond (is_own c t k) (oldest (inbox_at c.objects k)) []
open-said c t k =
    let letter = read_letter (first_of (inbox_at c.objects k)) in
    by_test (λ b. is_own c t k ≡ b → letters_in (cond (nat_lt k (length c.objects)) (cond b letter (refused refusal.InvalidState)) (refused refusal.NoChannel)) ≡ cond b (oldest (inbox_at c.objects k)) []) (is_own c t k)
    (λ _ own. ap letters_in (cond-true (nat_lt k (length c.objects)) letter (refused refusal.NoChannel) (lt-ltb k (length c.objects) (open-there c.objects k (and_parts (t == c.tab) (is_open_at c.objects k) own).1)))
    ∙ first-said (inbox_at c.objects k))
    (λ _ _. either (λ (s : Effect). letters_in s ≡ []) (nat_lt k (length c.objects)) (refused refusal.InvalidState) (refused refusal.NoChannel) (λ _. refl) (λ _. refl))
    refl

read-said : (w : WorldState) (t k : ℕ) → letters_in (reading w t k) ≡ cond (may_read w t k) (oldest (inbox_at (objects_of w t) k)) []
read-said w t k =
    let c = channels_of w t in
    by_test (λ b. letters_in (cond b (open_or c t k (read_letter (first_of (inbox_at c.objects k)))) (refused refusal.NoTab)) ≡ cond (b && is_own c t k) (oldest (inbox_at c.objects k)) []) (lives w t)
    (λ _. open-said c t k) (λ _. refl)

told-reads : (t k : ℕ) (w : WorldState) (e : Event) → told_by t k e (reply_of w e).said ≡ reads_at t k w e
unfolding reply_of said_of
told-reads t k w (event.Read u j) =
    by_test (λ b. (u == t && j == k) ≡ b → cond b (letters_in (reading w u j)) [] ≡ cond (b && may_read w t k) (oldest (inbox_at (objects_of w t) k)) []) (u == t && j == k)
    (λ _ e. let own = and_parts (u == t) (j == k) e in
    ap (λ z. letters_in (reading w z j)) (eqb-true u t own.0) ∙ ap (λ z. letters_in (reading w t z)) (eqb-true j k own.1) ∙ read-said w t k)
    (λ _ _. refl)
    refl
told-reads t k w e = refl

told-all : (t k : ℕ) (es : List Event) (w : WorldState) → read_in t k es w ≡ reads_in t k es w
told-all t k [] w = refl
told-all t k (e ∷ es) w = ap₂ ◌++◌ (told-reads t k w e) (told-all t k es (after_event w e))

pub heard-is_read : HeardIsReadForAll
heard-is_read events t k =
    let read = run-read events empty_world t k empty-owned in
    record { rest = read.rest; took = read.took ∙ ap (λ ls. ls ++ read.rest) (sym (told-all t k events empty_world)); waits = read.waits }

pub heard-till_closed : HeardTillClosedForAll
heard-till_closed events before later t k _ there closed = (
  taken-closed before later t k there closed,
  told-all t k later (run before empty_world) ∙ reads-closed later (run before empty_world) t k (run-owned before) there closed,
)
