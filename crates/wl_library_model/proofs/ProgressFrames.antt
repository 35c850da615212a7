-- A request that a client awaits stays awaited until it is granted, whatever frames of the tab's generation come between.
use Rattle.std.proofs.Common.{◌≡◌, ◌≢◌, ◌⊎◌, inl, inr, ⊎_elim, ℕ, ◌+◌, ◌<◌, ◌≤◌, Bool, true, false, cond, not, ◌&&◌, List, [], ◌∷◌, ◌++◌, length, filter, get_or, Option, Some, None, is_some, refl, sym, ap, ap₂, ◌∙◌, subst, arith}
use Rattle.std.specs.Prelude.{⊤}
use Rattle.std.specs.Prelude.{◌==◌, nat_lt}
use Rattle.std.proofs.lemmas.Bool.{cases_eq, eqb-true, ne_eqb, eq-eqb, and_from, le-ltb, cond-false}
use Rattle.wl_draft.specs.declared.mode.Mode.{Mode}
use Rattle.wl_draft.specs.Tables.{Table, find}
use Rattle.wl_draft.specs.Membership.{In, Here, Later as Behind}
use Rattle.wl_draft.proofs.Membership.{apart, either, by_test, In-nil, In-cons_cases}
use Rattle.wl_draft.proofs.TableLemmas.{find-put_same, find-put_other}
use Rattle.wl_draft.proofs.RisingTables.{find-without}
use Rattle.wl_grammar.specs.declared.frame.Operation.{Operation}
use Rattle.wl_grammar.specs.declared.frame.Operation.TheVariants.{Request, Release, Abort, Query}
use Rattle.wl_grammar.specs.declared.frame.Outcome.{Outcome}
use Rattle.wl_grammar.specs.declared.frame.Outcome.TheVariants as outcome
use Rattle.wl_grammar.specs.declared.frame.Answer.{Answer}
use Rattle.wl_grammar.specs.declared.frame.Snapshot.{Snapshot as Part}
use Rattle.wl_grammar.specs.declared.frame.Frame.{Frame}
use Rattle.wl_grammar.specs.declared.frame.Frame.TheVariants as frame
use Rattle.wl_agent.specs.declared.delivered.Delivered.{Delivered}
use Rattle.wl_agent.specs.declared.delivered.Delivered.TheVariants as heard
use Rattle.wl_agent.specs.declared.drop_reason.DropReason.TheVariants as unheard
use Rattle.wl_agent.specs.declared.status.Status.{Status}
use Rattle.wl_agent.specs.declared.status.Status.TheVariants.{Asked, Held, Querying}
use Rattle.wl_agent.specs.Tab.{TabState, status_of, operation_of, is_issued, is_query, ended}
use Rattle.wl_agent.specs.Delivery.{noted, becomes, result_of_asked_lock_answer, result_of_lock_answer, result_of_end_answer, result_of_query_answer, result_of_answer, told_by_answer, asking_refusal, part_refusal, parts_of, with_part_come, after_answer, after_part, has_entered, of_other, delivery}
use Rattle.wl_tab.specs.Tabs.{is_told, told}
use Rattle.wl_client.specs.declared.client.Unsent.TheVariants as unsent
use Rattle.wl_client.specs.Client.{ClientState, welcome_of, after_welcome, is_hello_of, after_delivery, after_frame, after_first}
use Rattle.wl_library_model.proofs.ProgressLinks.{all_handled}

-- Tables

some-same : (s t : Status) → Some s ≡ Some t → s ≡ t
some-same s t e = cc

none-some : (s : Status) → None ≡ Some s → ⊥
none-some s e = cc

-- A row that passes the test is still found.
find-kept : (test : ℕ × Status → Bool) (rows : Table Status) (k : ℕ) (s : Status) → find rows k ≡ Some s → test (k, s) ≡ true → find (filter test rows) k ≡ Some s
find-kept test [] k s e y = absurd (none-some s e)
find-kept test (row ∷ rows) k s e y =
    by_test (λ b. (row.0 == k) ≡ b → cond b (Some row.1) (find rows k) ≡ Some s → find (cond (test row) (row ∷ filter test rows) (filter test rows)) k ≡ Some s) (row.0 == k)
    (λ _ same h.
    let passes : test row ≡ true = ap₂ (λ n v. test (n, v)) (eqb-true row.0 k same) (some-same row.1 s h) ∙ y in
    ap (λ b. find (cond b (row ∷ filter test rows) (filter test rows)) k) passes ∙ (ap (λ b. cond b (Some row.1) (find (filter test rows) k)) same ∙ h))
    (λ _ other h. either (λ zs. find zs k ≡ Some s) (test row) (row ∷ filter test rows) (filter test rows)
    (λ _. ap (λ b. cond b (Some row.1) (find (filter test rows) k)) other ∙ find-kept test rows k s h y)
    (λ _. find-kept test rows k s h y))
    refl e

-- States of the tab

-- The number's lock is asked or held.
abbrev pub Wanted : Option Status → Type 0
Wanted o = (o ≡ Some Asked) ⊎ (o ≡ Some Held)

-- The tab has requested a lock as this number in its generation, and awaits or holds it.
pub record Waits (g n : ℕ) (mode : Mode) (name : List ℕ) (a : TabState) : Type 0 where
  pub entered : a.entered ≡ g
  pub issued : is_issued a n ≡ true
  pub operation : operation_of a n ≡ Request mode false name
  pub status : Wanted (status_of a n)

-- The tab issues nothing and stays in its generation, and the number's status stays or becomes held.
record Stays (n : ℕ) (a b : TabState) : Type 0 where
  entered : b.entered ≡ a.entered
  issued : b.issued ≡ a.issued
  status : (status_of b n ≡ status_of a n) ⊎ (status_of b n ≡ Some Held)

stays-same : (n : ℕ) (a : TabState) → Stays n a a
stays-same n a = record { entered = refl; issued = refl; status = inl refl }

stays-wanted : (n : ℕ) (a b : TabState) → Stays n a b → Wanted (status_of a n) → Wanted (status_of b n)
stays-wanted n a b s w = ⊎_elim (λ e. subst Wanted (sym e) w) (λ e. inr e) s.status

stays-waits : (g n : ℕ) (mode : Mode) (name : List ℕ) (a b : TabState) → Stays n a b → Waits g n mode name a → Waits g n mode name b
stays-waits g n mode name a b s w = record {
  entered = s.entered ∙ w.entered;
  issued = ap (λ z. nat_lt n (length z)) s.issued ∙ w.issued;
  operation = ap (λ z. get_or z n Query) s.issued ∙ w.operation;
  status = stays-wanted n a b s w.status;
}

stays-held : (n : ℕ) (a b : TabState) → Stays n a b → status_of a n ≡ Some Held → status_of b n ≡ Some Held
stays-held n a b s h = ⊎_elim (λ e. e ∙ h) (λ e. e) s.status

-- The end of queries

wanted-told : (o : Option Status) → Wanted o → (s : Status) × (o ≡ Some s) × (is_told s ≡ false)
wanted-told o (inl e) = (Asked, e, refl)
wanted-told o (inr e) = (Held, e, refl)

told-status : (n : ℕ) (a : TabState) → Wanted (status_of a n) → status_of (told a) n ≡ status_of a n
unfolding told
told-status n a w =
    let o = wanted-told (status_of a n) w in
    find-kept (λ row. not (is_told row.1)) a.statuses n o.0 o.1 (ap not o.2) ∙ sym o.1

told-rest : (a : TabState) → ((told a).entered ≡ a.entered) × ((told a).issued ≡ a.issued)
unfolding told
told-rest a = (refl, refl)

told-stays : (n : ℕ) (a b : TabState) → Stays n a b → Wanted (status_of a n) → Stays n a (told b)
told-stays n a b s w =
    let same = told-status n b (stays-wanted n a b s w) in
    record {
      entered = (told-rest b).0 ∙ s.entered;
      issued = (told-rest b).1 ∙ s.issued;
      status = ⊎_elim (λ e. inl (same ∙ e)) (λ e. inr (same ∙ e)) s.status;
    }

-- Answers

-- The result is about this number, if it changes a status.
abbrev IsAbout : ℕ → Delivered → Type 0
IsAbout k (heard.Granted j) = j ≡ k
IsAbout k (heard.Null j) = j ≡ k
IsAbout k (heard.Lost j) = j ≡ k
IsAbout k d = ⊤

asked-about : (k : ℕ) (b : Bool) (o : Outcome) → IsAbout k (result_of_asked_lock_answer k b o)
asked-about k b outcome.Granted = refl
asked-about k b outcome.Waiting = either (IsAbout k) b (heard.Dropped unheard.Odd) (heard.Waiting k) (λ _. tt) (λ _. tt)
asked-about k b outcome.Gone = either (IsAbout k) b (heard.Null k) (heard.Dropped unheard.Odd) (λ _. refl) (λ _. tt)
asked-about k b outcome.Taken = tt

lock-about : (k : ℕ) (b : Bool) (s : Option Status) (o : Outcome) → IsAbout k (result_of_lock_answer k b s o)
lock-about k b (Some Asked) o = asked-about k b o
lock-about k b (Some Held) o = tt
lock-about k b s o = tt

end-about : (k : ℕ) (o : Outcome) → IsAbout k (result_of_end_answer k o)
end-about k outcome.Taken = tt
end-about k o = tt

query-about : (k : ℕ) (s : Option Status) (o : Outcome) → IsAbout k (result_of_query_answer k s o)
query-about k (Some (Querying parts)) outcome.Gone = refl
query-about k (Some (Querying parts)) o = tt
query-about k s o = tt

command-about : (k : ℕ) (c : Operation) (s : Option Status) (o : Outcome) → IsAbout k (result_of_answer k c s o)
command-about k (Request mode b name) s o = lock-about k b s o
command-about k (Release j) s o = end-about k o
command-about k (Abort j) s o = end-about k o
command-about k Query s o = query-about k s o

answer-about : (x : Answer) (a : TabState) → IsAbout x.number (told_by_answer x a)
answer-about x a =
    either (IsAbout x.number) (is_issued a x.number) (result_of_answer x.number (operation_of a x.number) (status_of a x.number) x.outcome) (heard.Dropped unheard.Odd)
    (λ _. command-about x.number (operation_of a x.number) (status_of a x.number) x.outcome)
    (λ _. tt)

-- The status of any other number stays.
answer-elsewhere : (d : Delivered) (k n : ℕ) (a : TabState) → IsAbout k d → n ≢ k → status_of (after_answer d a) n ≡ status_of a n
unfolding becomes ended
answer-elsewhere (heard.Granted j) k n a e d = find-put_other j Held a.statuses n (λ s. d (s ∙ e))
answer-elsewhere (heard.Null j) k n a e d = find-without j n a.statuses ∙ cond-false _ _ _ (ne_eqb j n (λ s. d (sym s ∙ e)))
answer-elsewhere (heard.Lost j) k n a e d = find-put_other j _ a.statuses n (λ s. d (s ∙ e))
answer-elsewhere d k n a e f = refl

answer-rest : (d : Delivered) (a : TabState) → ((after_answer d a).entered ≡ a.entered) × ((after_answer d a).issued ≡ a.issued)
unfolding becomes ended
answer-rest (heard.Granted j) a = (refl, refl)
answer-rest (heard.Null j) a = (refl, refl)
answer-rest (heard.Lost j) a = (refl, refl)
answer-rest d a = (refl, refl)

-- An answer to a request that is asked grants it or changes nothing.
asked-moves : (n : ℕ) (o : Outcome) (a : TabState) → (status_of (after_answer (result_of_asked_lock_answer n false o) a) n ≡ status_of a n) ⊎ (status_of (after_answer (result_of_asked_lock_answer n false o) a) n ≡ Some Held)
unfolding becomes
asked-moves n outcome.Granted a = inr (find-put_same n Held a.statuses)
asked-moves n outcome.Waiting a = inl refl
asked-moves n outcome.Gone a = inl refl
asked-moves n outcome.Taken a = inl refl

lock-moves : (n : ℕ) (o : Outcome) (a : TabState) → Wanted (status_of a n)
    → (status_of (after_answer (result_of_lock_answer n false (status_of a n) o) a) n ≡ status_of a n) ⊎ (status_of (after_answer (result_of_lock_answer n false (status_of a n) o) a) n ≡ Some Held)
lock-moves n o a (inl e) = subst (λ z. (status_of (after_answer (result_of_lock_answer n false z o) a) n ≡ status_of a n) ⊎ (status_of (after_answer (result_of_lock_answer n false z o) a) n ≡ Some Held)) (sym e) (asked-moves n o a)
lock-moves n o a (inr e) = subst (λ z. (status_of (after_answer (result_of_lock_answer n false z o) a) n ≡ status_of a n) ⊎ (status_of (after_answer (result_of_lock_answer n false z o) a) n ≡ Some Held)) (sym e) (inl refl)

module _ (g n : ℕ) (mode : Mode) (name : List ℕ) (a : TabState) (w : Waits g n mode name a) where
  abbrev Moves : Delivered → Type 0
  Moves d = (status_of (after_answer d a) n ≡ status_of a n) ⊎ (status_of (after_answer d a) n ≡ Some Held)

  -- An answer to the number itself.
  own-moves : (o : Outcome) → Moves (cond (is_issued a n) (result_of_answer n (operation_of a n) (status_of a n) o) (heard.Dropped unheard.Odd))
  own-moves o =
      either Moves (is_issued a n) (result_of_answer n (operation_of a n) (status_of a n) o) (heard.Dropped unheard.Odd)
      (λ _. subst (λ c. Moves (result_of_answer n c (status_of a n) o)) (sym w.operation) (lock-moves n o a w.status))
      (λ _. inl refl)

  answer-moves : (x : Answer) → Moves (told_by_answer x a)
  answer-moves x = ⊎_elim
      (λ e. subst (λ k. Moves (cond (is_issued a k) (result_of_answer k (operation_of a k) (status_of a k) x.outcome) (heard.Dropped unheard.Odd))) e (own-moves x.outcome))
      (λ d. inl (answer-elsewhere (told_by_answer x a) x.number n a (answer-about x a) d))
      (cases_eq n x.number)

noted-stays : (n upto : ℕ) (a b : TabState) → Stays n a b → Stays n a (noted upto b)
unfolding noted
noted-stays n upto a b s = record { entered = s.entered; issued = s.issued; status = s.status }

-- Parts of snapshots

part-stays : (g n : ℕ) (mode : Mode) (name : List ℕ) (a : TabState) (x : Part) → Waits g n mode name a → Stays n a (after_part x a)
unfolding becomes
part-stays g n mode name a x w =
    either (Stays n a) (is_some (part_refusal x a)) a (becomes x.number (with_part_come x (parts_of (status_of a x.number))) a)
    (λ _. stays-same n a)
    (λ taken. record {
      entered = refl;
      issued = refl;
      status = inl (find-put_other x.number _ a.statuses n (λ e. apart (refused (sym e)) taken));
    })
  where
    refused : x.number ≡ n → is_some (part_refusal x a) ≡ true
    refused e = subst (λ k. is_some (cond (is_issued a k && is_query (operation_of a k)) (asking_refusal x (status_of a k)) (Some unheard.Odd)) ≡ true) (sym e)
        (subst (λ c. is_some (cond (is_issued a n && is_query c) (asking_refusal x (status_of a n)) (Some unheard.Odd)) ≡ true) (sym w.operation)
        (either (λ z. is_some z ≡ true) (is_issued a n && false) (asking_refusal x (status_of a n)) (Some unheard.Odd) (λ y. apart y (none (is_issued a n))) (λ _. refl)))
      where
        none : (b : Bool) → (b && false) ≡ false
        none true = refl
        none false = refl

-- Any frame

-- The frame makes a tab of this generation enter no later one.
abbrev pub IsFine : ℕ → Frame → Type 0
IsFine g (frame.Hello h) = h.generation ≤ g
IsFine g f = ⊤

module _ (g n : ℕ) (mode : Mode) (name : List ℕ) where
  delivery-stays : (f : Frame) (a : TabState) → IsFine g f → Waits g n mode name a → Stays n a (delivery f a).0
  unfolding delivery
  delivery-stays (frame.Hello h) a fine w =
      either {A = TabState × Delivered} (λ z. Stays n a z.0) (nat_lt a.entered h.generation) _ _
      (λ y. apart y (le-ltb a.entered h.generation (subst (λ z. h.generation ≤ z) (sym w.entered) fine)))
      (λ _. stays-same n a)
  delivery-stays (frame.Answer x) a fine w =
      either {A = TabState × Delivered} (λ z. Stays n a z.0) (has_entered x.generation a) _ _
      (λ _. noted-stays n x.upto a (after_answer (told_by_answer x a) a)
      (record { entered = (answer-rest (told_by_answer x a) a).0; issued = (answer-rest (told_by_answer x a) a).1; status = answer-moves g n mode name a w x }))
      (λ _. stays-same n a)
  delivery-stays (frame.Snapshot x) a fine w =
      either {A = TabState × Delivered} (λ z. Stays n a z.0) (has_entered x.generation a) _ _
      (λ _. noted-stays n (x.number + 1) a (after_part x a) (part-stays g n mode name a x w))
      (λ _. stays-same n a)
  delivery-stays f a fine w = stays-same n a

  frame-stays : (f : Frame) (a : TabState) → IsFine g f → Waits g n mode name a → Stays n a (told (delivery f a).0)
  frame-stays f a fine w = told-stays n a (delivery f a).0 (delivery-stays f a fine w) w.status

  -- The answer that grants the request.
  abbrev pub grant : ℕ → Frame
  grant upto = frame.Answer (record { generation = g; upto = upto; number = n; outcome = outcome.Granted })

  grant-holds : (upto : ℕ) (a : TabState) → 0 < g → Waits g n mode name a → status_of (delivery (grant upto) a).0 n ≡ Some Held
  unfolding delivery noted becomes
  grant-holds upto a lt w =
      let entered : has_entered g a ≡ true = and_from _ _ (eq-eqb g a.entered (sym w.entered)) (ap not (ne_eqb a.entered 0 (λ e. let z : a.entered ≡ 0 = e in let m : a.entered ≡ g = w.entered in let l : 0 < g = lt in omega arith))) in
      ap (λ b. let z : TabState × Delivered = cond b (noted upto (after_answer (told_by_answer (record { generation = g; upto = upto; number = n; outcome = outcome.Granted }) a) a), told_by_answer (record { generation = g; upto = upto; number = n; outcome = outcome.Granted }) a) (a, of_other g a) in status_of z.0 n) entered
      ∙ (ap (λ b. status_of (after_answer (cond b (result_of_answer n (operation_of a n) (status_of a n) outcome.Granted) (heard.Dropped unheard.Odd)) a) n) w.issued
      ∙ (ap (λ c. status_of (after_answer (result_of_answer n c (status_of a n) outcome.Granted) a) n) w.operation
      ∙ ⊎_elim
      (λ e. ap (λ s. status_of (after_answer (result_of_lock_answer n false s outcome.Granted) a) n) e ∙ find-put_same n Held a.statuses)
      (λ e. ap (λ s. status_of (after_answer (result_of_lock_answer n false s outcome.Granted) a) n) e ∙ e)
      w.status))

  grant-told : (upto : ℕ) (a : TabState) → 0 < g → Waits g n mode name a → status_of (told (delivery (grant upto) a).0) n ≡ Some Held
  grant-told upto a lt w =
      let h = grant-holds upto a lt w in told-status n (delivery (grant upto) a).0 (inr h) ∙ h

  -- The client

  pub record Kept (c d : ClientState) : Type 0 where
    pub welcomed : d.is_welcomed ≡ true
    pub waits : Waits g n mode name d.locks
    pub held : status_of c.locks n ≡ Some Held → status_of d.locks n ≡ Some Held

  kept-by : (c d : ClientState) → d.is_welcomed ≡ true → Stays n c.locks d.locks → Waits g n mode name c.locks → Kept c d
  kept-by c d y s w = record { welcomed = y; waits = stays-waits g n mode name c.locks d.locks s w; held = stays-held n c.locks d.locks s }

  delivery-kept : (f : Frame) (c : ClientState) → c.is_welcomed ≡ true → IsFine g f → Waits g n mode name c.locks → Kept c (after_delivery f c)
  delivery-kept (frame.Heard h) c y fine w = record { welcomed = y; waits = w; held = λ e. e }
  delivery-kept f c y fine w = kept-by c (after_delivery f c) y (frame-stays f c.locks fine w) w

  first-kept : (f : Frame) (fs : List Frame) (c : ClientState) → c.is_welcomed ≡ true → IsFine g f → Waits g n mode name c.locks → Kept c (after_first (f ∷ fs) c)
  first-kept f fs c y fine w =
      let rest = record c { arrived = fs } in
      either (Kept c) c.is_welcomed (after_frame f rest) (after_welcome (welcome_of f) rest)
      (λ _. either (Kept c) (is_hello_of c.locks.entered f) (record rest { unsent = rest.unsent ++ unsent.Resend ∷ [] }) (after_delivery f rest)
      (λ _. record { welcomed = y; waits = w; held = λ e. e })
      (λ _. let k = delivery-kept f rest y fine w in record { welcomed = k.welcomed; waits = k.waits; held = k.held }))
      (λ no. apart y no)

  first-grants : (upto : ℕ) (fs : List Frame) (c : ClientState) → c.is_welcomed ≡ true → 0 < g → Waits g n mode name c.locks → status_of (after_first (grant upto ∷ fs) c).locks n ≡ Some Held
  first-grants upto fs c y lt w = ap (λ b. status_of (cond b (after_frame (grant upto) (record c { arrived = fs })) (after_welcome None (record c { arrived = fs }))).locks n) y ∙ grant-told upto c.locks lt w

  pub all-kept : (fs : List Frame) (c : ClientState) → c.is_welcomed ≡ true → ((f : Frame) → In f fs → IsFine g f) → Waits g n mode name c.locks → Kept c (all_handled fs c)
  all-kept [] c y fine w = record { welcomed = y; waits = w; held = λ e. e }
  all-kept (f ∷ fs) c y fine w =
      let k = first-kept f fs c y (fine f Here) w in
      let m = all-kept fs (after_first (f ∷ fs) c) k.welcomed (λ z i. fine z (Behind i)) k.waits in
      record { welcomed = m.welcomed; waits = m.waits; held = λ e. m.held (k.held e) }

  -- Among frames of the generation is the grant.
  pub all-grants : (upto : ℕ) (fs : List Frame) (c : ClientState) → c.is_welcomed ≡ true → 0 < g → ((f : Frame) → In f fs → IsFine g f) → Waits g n mode name c.locks → In (grant upto) fs
      → status_of (all_handled fs c).locks n ≡ Some Held
  all-grants upto [] c y lt fine w i = absurd (In-nil i)
  all-grants upto (f ∷ fs) c y lt fine w i =
      let k = first-kept f fs c y (fine f Here) w in
      let m = all-kept fs (after_first (f ∷ fs) c) k.welcomed (λ z j. fine z (Behind j)) k.waits in
      ⊎_elim
      (λ e. m.held (subst (λ z. status_of (after_first (z ∷ fs) c).locks n ≡ Some Held) e (first-grants upto fs c y lt w)))
      (λ j. all-grants upto fs (after_first (f ∷ fs) c) k.welcomed lt (λ z q. fine z (Behind q)) k.waits j)
      (In-cons_cases i)
