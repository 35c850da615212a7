-- Aborts and releases by stored tokens.
use Rattle.std.proofs.Common.{◌≡◌, ℕ, Bool, true, false, not, ◌&&◌, cond, eqb, length, Option, Some, None, refl, sym, ap, ◌∙◌, List, get_or}
use Rattle.std.proofs.lemmas.Bool.{eq-eqb, and_left, and_right}
use Rattle.wl_grammar.specs.declared.frame.Operation.{Operation}
use Rattle.wl_grammar.specs.declared.frame.Operation.TheVariants.{Request, Release, Abort, Query}
use Rattle.wl_agent.specs.declared.status.Status.{Status}
use Rattle.wl_agent.specs.declared.status.Status.TheVariants.{Asked, Held, Querying, Whole, Lost}
use Rattle.wl_agent.specs.declared.token.Token.{Token}
use Rattle.wl_agent.specs.declared.token.Token.TheVariants as token
use Rattle.wl_agent.specs.Tab.{TabState, status_of, operation_of, is_asked, is_held, is_probe, is_request, reserves_number, aborted, released}
use Rattle.wl_agent.specs.Tokens.{is_pending, is_holding}
use Rattle.wl_agent.specs.AgentInvariant.{RowsFit, Stands, can_become}
use Rattle.wl_agent.proofs.Rows.{AllRows-find}
use Rattle.wl_tab.specs.declared.locks.AbortResult.{AbortResult}
use Rattle.wl_tab.specs.declared.locks.AbortResult.TheVariants as became
use Rattle.wl_tab.specs.declared.locks.live_command.LiveCommand.{LiveCommand}
use Rattle.wl_tab.specs.TabTokens.{token_for, is_open, abortion, can_abort, can_release, is_lock, number_of, IsKept}
use Rattle.wl_tab.proofs.KeptTokens.{Stood, Found, nowhere, stood-at, stood-same}
use Rattle.std.specs.List.{position}

-- Result and effect of an abort, by the status of its number

abbrev pub after_abort : ℕ → TabState → TabState
after_abort k a = cond (is_pending a k && is_asked (status_of a k)) (aborted k a) a

pub record Aborts (a : TabState) (k : ℕ) (said : AbortResult) (b : TabState) : Type 0 where
  pub said_is : said ≡ abortion k a
  pub left_is : b ≡ after_abort k a

pub aborts-nothing : (a : TabState) (k : ℕ) → is_pending a k ≡ false → Aborts a k became.Nothing a
aborts-nothing a k none = record {
  said_is = sym (ap (λ b. cond b (cond (is_asked (status_of a k)) (became.Issued (length a.issued)) became.Held) became.Nothing) none);
  left_is = sym (ap (λ b. cond (b && is_asked (status_of a k)) (aborted k a) a) none);
}

pub aborts-held : (a : TabState) (k : ℕ) → is_pending a k ≡ true → is_asked (status_of a k) ≡ false → Aborts a k became.Held a
aborts-held a k pending held = record {
  said_is = sym (ap (λ b. cond b (cond (is_asked (status_of a k)) (became.Issued (length a.issued)) became.Held) became.Nothing) pending ∙ ap (λ b. cond b (became.Issued (length a.issued)) became.Held) held);
  left_is = sym (ap (λ b. cond (b && is_asked (status_of a k)) (aborted k a) a) pending ∙ ap (λ b. cond b (aborted k a) a) held);
}

pub aborts-issued : (a : TabState) (k : ℕ) → is_pending a k ≡ true → is_asked (status_of a k) ≡ true → Aborts a k (became.Issued (length a.issued)) (aborted k a)
aborts-issued a k pending asked = record {
  said_is = sym (ap (λ b. cond b (cond (is_asked (status_of a k)) (became.Issued (length a.issued)) became.Held) became.Nothing) pending ∙ ap (λ b. cond b (became.Issued (length a.issued)) became.Held) asked);
  left_is = sym (ap (λ b. cond (b && is_asked (status_of a k)) (aborted k a) a) pending ∙ ap (λ b. cond b (aborted k a) a) asked);
}

-- Tokens of requests and locks

asked_no_lock : (tab k : ℕ) (b : Bool) → is_lock (cond b (token.Probe (record { tab = tab; number = k })) (token.Pending (record { tab = tab; number = k }))) ≡ true → ⊥
asked_no_lock tab k true e = cc
asked_no_lock tab k false e = cc

lock_as : (tab k : ℕ) (o : Operation) (s : Status) → is_lock (token_for tab o k s) ≡ true → s ≡ Held
lock_as tab k o Asked e = absurd (asked_no_lock tab k (is_probe o) e)
lock_as tab k o Held e = refl
lock_as tab k o (Querying p) e = let bad : ⊥ = cc in absurd bad
lock_as tab k o (Whole s) e = let bad : ⊥ = cc in absurd bad
lock_as tab k o Lost e = let bad : ⊥ = cc in absurd bad

-- The token of a request that is not held is pending.
request_as : (tab k : ℕ) (o : Operation) (s : Status) → can_become o s ≡ true → is_request o ≡ true → is_lock (token_for tab o k s) ≡ false → (s ≡ Asked) × (token_for tab o k s ≡ token.Pending (record { tab = tab; number = k }))
request_as tab k (Request m false n) Asked fits e free = (refl, refl)
request_as tab k (Request m true n) Asked fits e free = let bad : ⊥ = cc in absurd bad
request_as tab k (Request m b n) Held fits e free = let bad : ⊥ = cc in absurd bad
request_as tab k (Request m b n) (Querying p) fits e free = let bad : ⊥ = cc in absurd bad
request_as tab k (Request m b n) (Whole p) fits e free = let bad : ⊥ = cc in absurd bad
request_as tab k (Request m b n) Lost fits e free = let bad : ⊥ = cc in absurd bad
request_as tab k (Release j) s fits e free = let bad : ⊥ = cc in absurd bad
request_as tab k (Abort j) s fits e free = let bad : ⊥ = cc in absurd bad
request_as tab k Query s fits e free = let bad : ⊥ = cc in absurd bad

-- If a number's token is not a lock, its status is not held.
no_lock_as : (tab k : ℕ) (o : Operation) (s : Status) → is_lock (token_for tab o k s) ≡ false → is_held (Some s) ≡ false
no_lock_as tab k o Asked e = refl
no_lock_as tab k o Held e = let bad : ⊥ = cc in absurd bad
no_lock_as tab k o (Querying p) e = refl
no_lock_as tab k o (Whole s) e = refl
no_lock_as tab k o Lost e = refl

pub lock-held : (a : TabState) (k : ℕ) (x : LiveCommand) → Stood a.tab k a.issued a.statuses x → is_lock x.token ≡ true → status_of a k ≡ Some Held
lock-held a k x s lock =
    s.here ∙ ap Some (lock_as a.tab k (operation_of a k) s.status (sym (ap (λ (y : LiveCommand). is_lock y.token) s.kept) ∙ lock))

pub no-lock : (a : TabState) (k : ℕ) (x : LiveCommand) → Stood a.tab k a.issued a.statuses x → is_lock x.token ≡ false → is_holding a k ≡ false
no-lock a k x s free =
    ap is_held s.here ∙ no_lock_as a.tab k (operation_of a k) s.status (sym (ap (λ (y : LiveCommand). is_lock y.token) s.kept) ∙ free)

open_as : (tab k : ℕ) (o : Operation) (s : Status) → is_open (Some s) ≡ not (is_lock (token_for tab o k s))
open_as tab k o Asked = elim (is_probe o) as (λ b. true ≡ not (is_lock (cond b (token.Probe (record { tab = tab; number = k })) (token.Pending (record { tab = tab; number = k }))))) [ true ↦ refl | false ↦ refl ]
open_as tab k o Held = refl
open_as tab k o (Querying p) = refl
open_as tab k o (Whole s) = refl
open_as tab k o Lost = refl

-- A number with a stored token is open unless the token is a lock.
pub open-there : (a : TabState) (k : ℕ) (x : LiveCommand) → Stood a.tab k a.issued a.statuses x → is_open (status_of a k) ≡ not (is_lock x.token)
open-there a k x s = ap is_open s.here ∙ open_as a.tab k (operation_of a k) s.status ∙ sym (ap (λ (y : LiveCommand). not (is_lock y.token)) s.kept)

-- Facts about the token of a request that is asked.
pub record IsAskedFor (a : TabState) (k : ℕ) (x : LiveCommand) : Type 0 where
  pub status : status_of a k ≡ Some Asked
  pub token_is : x.token ≡ token.Pending (record { tab = a.tab; number = k })
  pub pending : is_pending a k ≡ true

pub request-asked : (a : TabState) (k : ℕ) (x : LiveCommand) → RowsFit a.issued a.statuses → Stood a.tab k a.issued a.statuses x → is_request x.operation ≡ true → is_lock x.token ≡ false → IsAskedFor a k x
request-asked a k x fit s request free =
    let o = operation_of a k in
    let stands = AllRows-find (Stands a.issued) k s.status a.statuses fit s.here in
    let asks : is_request o ≡ true = sym (ap (λ (y : LiveCommand). is_request y.operation) s.kept) ∙ request in
    let r = request_as a.tab k o s.status stands.1 asks (sym (ap (λ (y : LiveCommand). is_lock y.token) s.kept) ∙ free) in
    let status : status_of a k ≡ Some Asked = s.here ∙ ap Some r.0 in
    record {
      status = status;
      token_is = ap (λ (y : LiveCommand). y.token) s.kept ∙ r.1;
      pending = ap (λ b. b && reserves_number (status_of a k)) asks ∙ ap reserves_number status;
    }

pub not-request : (a : TabState) (k : ℕ) (x : LiveCommand) → Stood a.tab k a.issued a.statuses x → is_request x.operation ≡ false → is_pending a k ≡ false
not-request a k x s free =
    and_left (is_request (operation_of a k)) (reserves_number (status_of a k)) (sym (ap (λ (y : LiveCommand). is_request y.operation) s.kept) ∙ free)

pub not-there : (a : TabState) (k : ℕ) → status_of a k ≡ None → (is_pending a k ≡ false) × (is_holding a k ≡ false)
not-there a k none =
    (and_right (is_request (operation_of a k)) (reserves_number (status_of a k)) (ap reserves_number none), ap is_held none)

pub held-request : (a : TabState) (k : ℕ) (x : LiveCommand) → Stood a.tab k a.issued a.statuses x → is_request x.operation ≡ true → is_lock x.token ≡ true → (is_pending a k ≡ true) × (is_asked (status_of a k) ≡ false)
held-request a k x s request lock =
    let held = lock-held a k x s lock in
    let asks : is_request (operation_of a k) ≡ true = sym (ap (λ (y : LiveCommand). is_request y.operation) s.kept) ∙ request in
    (ap (λ b. b && reserves_number (status_of a k)) asks ∙ ap reserves_number held, ap is_asked held)

-- Calls of the agent by these tokens

aborts_own : (a : TabState) (k : ℕ) → eqb a.tab a.tab ≡ true → is_pending a k ≡ true → status_of a k ≡ Some Asked → can_abort a (token.Pending (record { tab = a.tab; number = k })) ≡ true
aborts_own a k own pending status = rw (own, pending, status) refl

pub may-abort : (a : TabState) (k : ℕ) (x : LiveCommand) (t : Token) → IsAskedFor a k x → t ≡ x.token → (can_abort a t ≡ true) × (number_of t ≡ k)
may-abort a k x t f same =
    let whole : t ≡ token.Pending (record { tab = a.tab; number = k }) = same ∙ f.token_is in
    (ap (can_abort a) whole ∙ aborts_own a k (eq-eqb a.tab a.tab refl) f.pending f.status, ap number_of whole)

pub may-release : (a : TabState) (k : ℕ) (x : LiveCommand) (t : Token) → Stood a.tab k a.issued a.statuses x → is_lock x.token ≡ true → t ≡ x.token → (can_release a t ≡ true) × (number_of t ≡ k)
may-release a k x t s lock same =
    let held = lock-held a k x s lock in
    let is_held_here : s.status ≡ Held = lock_as a.tab k (operation_of a k) s.status (sym (ap (λ (y : LiveCommand). is_lock y.token) s.kept) ∙ lock) in
    let whole : t ≡ token.HeldLock (record { tab = a.tab; number = k }) = same ∙ ap (λ (y : LiveCommand). y.token) s.kept ∙ ap (token_for a.tab (operation_of a k) k) is_held_here in
    let own = eq-eqb a.tab a.tab refl in
    (ap (can_release a) whole ∙ ap (λ b. b && is_held (status_of a k)) own ∙ ap is_held held, ap number_of whole)

-- Releases

abbrev pub after_release : ℕ → TabState → TabState
after_release k a = cond (is_holding a k) (released k a) a

abbrev pub next_by_release : ℕ → TabState → Option ℕ
next_by_release k a = cond (is_holding a k) (Some (length a.issued)) None

-- Aborts and releases, from the lookup

pub apart : {A : Type 0} (b : Bool) → b ≡ true → b ≡ false → A
apart b holds fails = let bad : ⊥ = cc in absurd bad

pub abort-none : (a : TabState) (tab entered : ℕ) (kept xs : List LiveCommand) (k : ℕ) (o : Option ℕ) → IsKept a tab entered kept → xs ≡ kept → o ≡ position (λ x. eqb (number_of x.token) k) xs → o ≡ None → Aborts a k became.Nothing a
abort-none a tab entered kept xs k o is same at none = aborts-nothing a k (not-there a k (nowhere a tab entered kept xs k o is same at none)).0

pub abort-other : (a : TabState) (kept : List LiveCommand) (k place : ℕ) (x : LiveCommand) → Found a kept k place → x ≡ get_or kept place x → is_request x.operation ≡ false → Aborts a k became.Nothing a
abort-other a kept k place x f e other = aborts-nothing a k (not-request a k x (stood-at a kept k place x f e) other)

pub abort-held : (a : TabState) (kept : List LiveCommand) (k place : ℕ) (x y : LiveCommand) → Found a kept k place → x ≡ get_or kept place x → is_request x.operation ≡ true → y ≡ get_or kept place y → is_lock y.token ≡ true → Aborts a k became.Held a
abort-held a kept k place x y f e request d lock =
    let s = stood-at a kept k place x f e in
    let same : x ≡ y = stood-same a.tab k a.issued a.statuses x y s (stood-at a kept k place y f d) in
    let h = held-request a k x s request (ap (λ (z : LiveCommand). is_lock z.token) same ∙ lock) in
    aborts-held a k h.0 h.1

-- The removed token belongs to a request that is asked.
pub record TakenOut (a : TabState) (k : ℕ) (t : Token) : Type 0 where
  pub may : can_abort a t ≡ true
  pub number_is : number_of t ≡ k
  pub issued : Aborts a k (became.Issued (length a.issued)) (aborted k a)

pub abort-asked : (a : TabState) (tab entered : ℕ) (kept : List LiveCommand) (k place : ℕ) (x y z : LiveCommand) → IsKept a tab entered kept → Found a kept k place → x ≡ get_or kept place x → is_request x.operation ≡ true → y ≡ get_or kept place y → is_lock y.token ≡ false → z ≡ get_or kept place z → TakenOut a k z.token
abort-asked a tab entered kept k place x y z is f e request d free taken =
    let s = stood-at a kept k place x f e in
    let same : x ≡ y = stood-same a.tab k a.issued a.statuses x y s (stood-at a kept k place y f d) in
    let out : z ≡ x = stood-same a.tab k a.issued a.statuses z x (stood-at a kept k place z f taken) s in
    let asks = request-asked a k x is.rows s request (ap (λ (w : LiveCommand). is_lock w.token) same ∙ free) in
    let may = may-abort a k x z.token asks (ap (λ (w : LiveCommand). w.token) out) in
    record { may = may.0; number_is = may.1; issued = aborts-issued a k asks.pending (ap is_asked asks.status) }

-- The result and effect of a release.
pub record Releases (a : TabState) (k : ℕ) (next : Option ℕ) (b : TabState) : Type 0 where
  pub next_is : next ≡ next_by_release k a
  pub left_is : b ≡ after_release k a

releases-nothing : (a : TabState) (k : ℕ) → is_holding a k ≡ false → Releases a k None a
releases-nothing a k none = record {
  next_is = sym (ap (λ b. cond b (Some (length a.issued)) None) none);
  left_is = sym (ap (λ b. cond b (released k a) a) none);
}

pub release-none : (a : TabState) (tab entered : ℕ) (kept xs : List LiveCommand) (k : ℕ) (o : Option ℕ) → IsKept a tab entered kept → xs ≡ kept → o ≡ position (λ x. eqb (number_of x.token) k) xs → o ≡ None → Releases a k None a
release-none a tab entered kept xs k o is same at none = releases-nothing a k (not-there a k (nowhere a tab entered kept xs k o is same at none)).1

pub release-other : (a : TabState) (kept : List LiveCommand) (k place : ℕ) (x : LiveCommand) → Found a kept k place → x ≡ get_or kept place x → is_lock x.token ≡ false → Releases a k None a
release-other a kept k place x f e free = releases-nothing a k (no-lock a k x (stood-at a kept k place x f e) free)

pub record LetGo (a : TabState) (k : ℕ) (t : Token) : Type 0 where
  pub may : can_release a t ≡ true
  pub number_is : number_of t ≡ k
  pub done : Releases a k (Some (length a.issued)) (released k a)

pub release-held : (a : TabState) (kept : List LiveCommand) (k place : ℕ) (x z : LiveCommand) → Found a kept k place → x ≡ get_or kept place x → is_lock x.token ≡ true → z ≡ get_or kept place z → LetGo a k z.token
release-held a kept k place x z f e lock taken =
    let s = stood-at a kept k place x f e in
    let out : z ≡ x = stood-same a.tab k a.issued a.statuses z x (stood-at a kept k place z f taken) s in
    let may = may-release a k x z.token s lock (ap (λ (w : LiveCommand). w.token) out) in
    let held : is_holding a k ≡ true = ap is_held (lock-held a k x s lock) in
    record {
      may = may.0;
      number_is = may.1;
      done = record {
        next_is = sym (ap (λ b. cond b (Some (length a.issued)) None) held);
        left_is = sym (ap (λ b. cond b (released k a) a) held);
      };
    }
