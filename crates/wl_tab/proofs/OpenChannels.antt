-- Stored tokens of the open channels, by number.
use Rattle.std.proofs.Common.{◌≡◌, ℕ, zero, suc, ◌+◌, ◌<◌, ◌≤◌, Bool, true, false, not, ◌||◌, ◌&&◌, cond, eqb, ltb, List, [], ◌∷◌, ◌++◌, length, filter, map, get_or, option_map, Option, Some, None, Result, Ok, Err, zero-add, length-append, refl, sym, ap, ◌∙◌, subst, arith}
use Rattle.std.proofs.lemmas.Bool.{eqb-true, eqb-false, ltb-false, le-ltb, or_right}
use Rattle.std.proofs.lemmas.Bool.Decides.{nat_tests}
use Rattle.std.proofs.lemmas.List.Quantifiers.{position-Some}
use Rattle.std.specs.List.{position, remove, list_any}
use Rattle.std.proofs.lemmas.List.{map-append}
use Rattle.wl_grammar.specs.declared.frame.Frame.{Frame}
use Rattle.wl_grammar.specs.declared.frame.Frame.TheVariants as frame
use Rattle.wl_grammar.specs.declared.frame.Heard.{Heard}
use Rattle.std.specs.Result.{OnOk, OnErr}
use Rattle.wl_broadcast.specs.declared.letter.Letter.{Letter}
use Rattle.wl_broadcast.specs.declared.letter.Hearing.{Hearing}
use Rattle.wl_broadcast.specs.declared.fault.ChannelFault.{ChannelFault}
use Rattle.wl_broadcast.specs.declared.fault.ChannelFault.TheVariants.{ForeignChannel}
use Rattle.wl_broadcast.specs.Channels.{ChannelState, Object, new_object, opened, posted, heard, after_hearing, heard_refusal, is_old, read_at, closed_at, rest_of, name_at, changed_at, delivered_from, is_open_at, own_refusal, post_refusal}
use Rattle.wl_broadcast.specs.OpenObjects.{open_from}
use Rattle.wl_broadcast.specs.Owned.{Owned}
use Rattle.wl_broadcast.proofs.Numbered.{is_open_at-suc, changed_at-suc, open-delivered, open-read, open-closed_at, open-pushed}
use Rattle.wl_tab.specs.declared.channels.ChannelRefusal.{ChannelRefusal}
use Rattle.wl_tab.specs.declared.channels.ChannelRefusal.TheVariants.{NoChannel, Closed, Fault}
use Rattle.wl_tab.specs.TabChannels.{number_refusal, refusal_or, posting_refusal, channel_of, open_channels, opened_until, IsNumbered, place_in, found_at}
use Rattle.wl_tab.proofs.Positions.{RisesBy, position-none, remove-place}

-- Numbers of the open objects

rises_as : (tab k : ℕ) (b : Bool) (ns : List ℕ) → RisesBy (λ (c : Owned). c.number) (k + 1) (map (channel_of tab) ns) → RisesBy (λ (c : Owned). c.number) k (map (channel_of tab) (cond b (k ∷ ns) ns))
rises_as tab k true ns r = (omega arith, r)
rises_as tab k false [] r = tt
rises_as tab k false (n ∷ ns) r = (omega (arith, r.0), r.1)

pub open-rises : (tab k : ℕ) (os : List Object) → RisesBy (λ (c : Owned). c.number) k (map (channel_of tab) (open_from k os))
open-rises tab k [] = tt
open-rises tab k (o ∷ os) = rises_as tab k o.is_open (open_from (k + 1) os) (open-rises tab (k + 1) os)

-- No open object has a number below the first.
none_below_as : (tab k n : ℕ) (b : Bool) (ns : List ℕ) → n < k → list_any (λ (c : Owned). eqb c.number n) (map (channel_of tab) ns) ≡ false → list_any (λ (c : Owned). eqb c.number n) (map (channel_of tab) (cond b (k ∷ ns) ns)) ≡ false
none_below_as tab k n b ns low below = grind (arith, nat_tests)

none_below : (tab k n : ℕ) (os : List Object) → n < k → list_any (λ (c : Owned). eqb c.number n) (map (channel_of tab) (open_from k os)) ≡ false
none_below tab k n [] low = refl
none_below tab k n (o ∷ os) low = none_below_as tab k n o.is_open (open_from (k + 1) os) low (none_below tab (k + 1) n os (omega arith))

first_open : (tab k : ℕ) (b : Bool) (ns : List ℕ) → list_any (λ (c : Owned). eqb c.number (k + 0)) (map (channel_of tab) ns) ≡ false → list_any (λ (c : Owned). eqb c.number (k + 0)) (map (channel_of tab) (cond b (k ∷ ns) ns)) ≡ b
first_open tab k b ns none = grind (arith, nat_tests)

later_open : (tab k n : ℕ) (b c : Bool) (ns : List ℕ) → list_any (λ (c : Owned). eqb c.number (k + 1 + n)) (map (channel_of tab) ns) ≡ c → list_any (λ (c : Owned). eqb c.number (k + suc n)) (map (channel_of tab) (cond b (k ∷ ns) ns)) ≡ c
later_open tab k n b c ns below = grind (arith, nat_tests)

-- A number has a stored token exactly if its object is open.
pub kept-open : (tab k n : ℕ) (os : List Object) → list_any (λ (c : Owned). eqb c.number (k + n)) (map (channel_of tab) (open_from k os)) ≡ is_open_at os n
kept-open tab k n [] = refl
kept-open tab k zero (o ∷ os) = first_open tab k o.is_open (open_from (k + 1) os) (none_below tab (k + 1) (k + 0) os (omega arith))
kept-open tab k (suc n) (o ∷ os) = later_open tab k n o.is_open (is_open_at os n) (open_from (k + 1) os) (kept-open tab (k + 1) n os) ∙ sym (is_open_at-suc o os n)

filter-channels_as : (tab k : ℕ) (b : Bool) (n : ℕ) (ns : List ℕ) (xs : List Owned) → xs ≡ map (channel_of tab) (filter (λ j. not (eqb j k)) ns) → cond b (channel_of tab n ∷ xs) xs ≡ map (channel_of tab) (cond b (n ∷ filter (λ j. not (eqb j k)) ns) (filter (λ j. not (eqb j k)) ns))
filter-channels_as tab k true n ns xs e = ap (λ ys. channel_of tab n ∷ ys) e
filter-channels_as tab k false n ns xs e = e

pub filter-channels : (tab k : ℕ) (ns : List ℕ) → filter (λ (c : Owned). not (eqb c.number k)) (map (channel_of tab) ns) ≡ map (channel_of tab) (filter (λ j. not (eqb j k)) ns)
filter-channels tab k [] = refl
filter-channels tab k (n ∷ ns) = filter-channels_as tab k (not (eqb n k)) n ns _ (filter-channels tab k ns)

-- The channel with a number

-- Facts about the channel with a number, if it was found.
pub record Found (c : ChannelState) (k : ℕ) (kept : List Owned) (place : ℕ) : Type 0 where
  pub allowed : number_refusal k c ≡ None
  pub opened : is_open_at c.objects k ≡ true
  pub within : place < length kept
  pub rest : remove kept place ≡ map (channel_of c.tab) (filter (λ j. not (eqb j k)) (open_from 0 c.objects))
  pub channel : (d : Owned) → get_or kept place d ≡ channel_of c.tab k

any_at : (p : Owned → Bool) (xs : List Owned) (i : ℕ) (d : Owned) → i < length xs → p (get_or xs i d) ≡ true → list_any p xs ≡ true
any_at p [] i d h e = absurd (omega arith)
any_at p (x ∷ xs) zero d h e = ap (λ b. b || list_any p xs) e
any_at p (x ∷ xs) (suc i) d h e = or_right (p x) (list_any p xs) (any_at p xs i d (omega arith) e)

is_channel : (tab : ℕ) (ns : List ℕ) (i : ℕ) (d : Owned) → i < length (map (channel_of tab) ns) → get_or (map (channel_of tab) ns) i d ≡ channel_of tab (get_or (map (channel_of tab) ns) i d).number
is_channel tab [] i d h = absurd (omega arith)
is_channel tab (n ∷ ns) zero d h = refl
is_channel tab (n ∷ ns) (suc i) d h = is_channel tab ns i d (omega arith)

found_as : (k place : ℕ) (b : Bool) (o : Option ℕ) → cond b (found_at o) (Err NoChannel) ≡ Ok place → (b ≡ true) × (o ≡ Some place)
found_as k place true None e = cc
found_as k place true (Some i) e = (refl, cc)
found_as k place false o e = cc

abbrev is_at : ℕ → Owned → Bool
is_at k channel = eqb channel.number k

open_here : (c : ChannelState) (latest : Option ℕ) (kept : List Owned) (k : ℕ) → IsNumbered c latest kept → list_any (is_at k) kept ≡ is_open_at c.objects k
open_here c latest kept k n =
    let same : 0 + k ≡ k = omega arith in
    ap (list_any (is_at k)) n.tokens ∙ ap (λ j. list_any (is_at j) (open_channels c)) (sym same) ∙ kept-open c.tab 0 k c.objects

pub found : (c : ChannelState) (latest : Option ℕ) (kept : List Owned) (k place : ℕ) → IsNumbered c latest kept → place_in k latest kept ≡ Ok place → Found c k kept place
found c latest kept k place n e =
    let none : Owned = channel_of 0 0 in
    let parts = found_as k place (ltb k (opened_until latest)) (position (is_at k) kept) e in
    let at = position-Some (is_at k) kept place none parts.1 in
    let here : is_open_at c.objects k ≡ true = sym (open_here c latest kept k n) ∙ any_at (is_at k) kept place none at.0 at.1 in
    let until : ltb k (length c.objects) ≡ true = ap (ltb k) n.count ∙ parts.0 in
    let number : (get_or kept place none).number ≡ k = eqb-true _ k at.1 in
    let rises : RisesBy (λ (x : Owned). x.number) 0 kept = subst (RisesBy (λ (x : Owned). x.number) 0) (sym n.tokens) (open-rises c.tab 0 c.objects) in
    record {
      allowed = ap (λ b. cond b (cond (is_open_at c.objects k) None (Some Closed)) (Some NoChannel)) until ∙ ap (λ b. cond b None (Some Closed)) here;
      opened = here;
      within = at.0;
      rest = remove-place (λ (x : Owned). x.number) k 0 kept place none rises at.0 number ∙ ap (filter (λ x. not (is_at k x))) n.tokens ∙ filter-channels c.tab k (open_from 0 c.objects);
      channel = λ d. channel_is d at.0;
    }
  where
    channel_is : (d : Owned) → place < length kept → get_or kept place d ≡ channel_of c.tab k
    channel_is d within =
        let parts = found_as k place (ltb k (opened_until latest)) (position (is_at k) kept) e in
        let at = position-Some (is_at k) kept place d parts.1 in
        let whole : get_or kept place d ≡ channel_of c.tab (get_or kept place d).number = subst (λ (xs : List Owned). place < length xs → get_or xs place d ≡ channel_of c.tab (get_or xs place d).number) (sym n.tokens) (is_channel c.tab (open_from 0 c.objects) place d) within in
        whole ∙ ap (channel_of c.tab) (eqb-true _ k at.1)

refused_as : (k : ℕ) (e : ChannelRefusal) (b c : Bool) (o : Option ℕ) → cond b (found_at o) (Err NoChannel) ≡ Err e → (o ≡ None → c ≡ false) → cond b (cond c None (Some Closed)) (Some NoChannel) ≡ Some e
refused_as k e true c None is shut = ap (λ b. cond b None (Some Closed)) (shut refl) ∙ cc
refused_as k e true c (Some i) is shut = cc
refused_as k e false c o is shut = cc

-- If no open channel with the number is found, the refusal is the definition's.
pub refused : (c : ChannelState) (latest : Option ℕ) (kept : List Owned) (k : ℕ) (e : ChannelRefusal) → IsNumbered c latest kept → place_in k latest kept ≡ Err e → number_refusal k c ≡ Some e
refused c latest kept k e n is =
    ap (λ m. cond (ltb k m) (cond (is_open_at c.objects k) None (Some Closed)) (Some NoChannel)) n.count
    ∙ refused_as k e (ltb k (opened_until latest)) (is_open_at c.objects k) (position (is_at k) kept) is (λ none. sym (open_here c latest kept k n) ∙ position-none (is_at k) kept none)

pub found_in : (c : ChannelState) (latest : Option ℕ) (kept xs : List Owned) (k place : ℕ) (r : Result ℕ ChannelRefusal) → IsNumbered c latest kept → xs ≡ kept → r ≡ place_in k latest xs → r ≡ Ok place → Found c k kept place
found_in c latest kept xs k place r n same is at = found c latest kept k place n (ap (place_in k latest) (sym same) ∙ sym is ∙ at)

pub refused_in : (c : ChannelState) (latest : Option ℕ) (kept xs : List Owned) (k : ℕ) (e : ChannelRefusal) (r : Result ℕ ChannelRefusal) → IsNumbered c latest kept → xs ≡ kept → r ≡ place_in k latest xs → r ≡ Err e → number_refusal k c ≡ Some e
refused_in c latest kept xs k e r n same is at = refused c latest kept k e n (ap (place_in k latest) (sym same) ∙ sym is ∙ at)

-- Effects of the calls

-- A call that opens and closes no object keeps the invariant.
pub numbered-same : (c d : ChannelState) (latest : Option ℕ) (kept : List Owned) → IsNumbered c latest kept → d.tab ≡ c.tab → open_from 0 d.objects ≡ open_from 0 c.objects → length d.objects ≡ length c.objects → IsNumbered d latest kept
numbered-same c d latest kept n tab objects count = record {
  tokens = n.tokens ∙ ap (λ ns. map (channel_of c.tab) ns) (sym objects) ∙ ap (λ t. map (channel_of t) (open_from 0 d.objects)) (sym tab);
  count = count ∙ n.count;
}

length-delivered : (sender : Option ℕ) (name : List ℕ) (letter : Letter) (k : ℕ) (os : List Object) → length (delivered_from k sender name letter os) ≡ length os
length-delivered sender name letter k [] = refl
length-delivered sender name letter k (o ∷ os) = ap suc (length-delivered sender name letter (k + 1) os)

length-changed : (f : Object → Object) (k : ℕ) (os : List Object) → length (changed_at k f os) ≡ length os
length-changed f k [] = refl
length-changed f zero (o ∷ os) = refl
length-changed f (suc k) (o ∷ os) = ap length (changed_at-suc f o os k) ∙ ap suc (length-changed f k os)

pub numbered-posted : (c d : ChannelState) (latest : Option ℕ) (kept : List Owned) (k : ℕ) (bytes : List ℕ) → IsNumbered c latest kept → d ≡ posted k bytes c → IsNumbered d latest kept
numbered-posted c d latest kept k bytes n is =
    let letter : Letter = record { source = c.tab; number = c.posts; bytes = bytes } in
    let name = name_at c.objects k in
    numbered-same c d latest kept n (ap (λ (s : ChannelState). s.tab) is) (ap (λ (s : ChannelState). open_from 0 s.objects) is ∙ open-delivered (Some k) name letter 0 c.objects) (ap (λ (s : ChannelState). length s.objects) is ∙ length-delivered (Some k) name letter 0 c.objects)

numbered-hearing : (c : ChannelState) (latest : Option ℕ) (kept : List Owned) (x : Heard) (b : Bool) → IsNumbered c latest kept → IsNumbered (cond b c (heard x c)) latest kept
numbered-hearing c latest kept x true n = n
numbered-hearing c latest kept x false n =
    let letter : Letter = record { source = x.source; number = x.number; bytes = x.bytes } in
    numbered-same c (heard x c) latest kept n refl (open-delivered None x.channel letter 0 c.objects) (length-delivered None x.channel letter 0 c.objects)

numbered-heard_frame : (c d : ChannelState) (latest : Option ℕ) (kept : List Owned) (f : Frame) → IsNumbered c latest kept → heard_refusal f ≡ None → d ≡ after_hearing f c → IsNumbered d latest kept
numbered-heard_frame c d latest kept (frame.Heard x) n e is =
    subst (λ s. IsNumbered s latest kept) (sym is) (numbered-hearing c latest kept x (is_old c x.source x.number) n)
numbered-heard_frame c d latest kept f n e is = cc

pub numbered-heard : (c d : ChannelState) (latest : Option ℕ) (kept : List Owned) (f : Frame) (r : Result Hearing ChannelFault) → IsNumbered c latest kept → OnOk r (d ≡ after_hearing f c) → OnOk r (heard_refusal f ≡ None) → OnErr r (d ≡ c) → IsNumbered d latest kept
numbered-heard c d latest kept f (Ok h) n ok allowed err = numbered-heard_frame c d latest kept f n allowed ok
numbered-heard c d latest kept f (Err e) n ok allowed err = subst (λ s. IsNumbered s latest kept) (sym err) n

pub numbered-read : (c d : ChannelState) (latest : Option ℕ) (kept : List Owned) (k : ℕ) → IsNumbered c latest kept → d ≡ read_at k c → IsNumbered d latest kept
numbered-read c d latest kept k n is =
    numbered-same c d latest kept n (ap (λ (s : ChannelState). s.tab) is) (ap (λ (s : ChannelState). open_from 0 s.objects) is ∙ open-read 0 k c.objects) (ap (λ (s : ChannelState). length s.objects) is ∙ length-changed (λ o. record o { inbox = rest_of o.inbox }) k c.objects)

pub numbered-closed : (c d : ChannelState) (latest : Option ℕ) (kept xs : List Owned) (k place : ℕ) → IsNumbered c latest kept → Found c k kept place → xs ≡ remove kept place → d ≡ closed_at k c → IsNumbered d latest xs
numbered-closed c d latest kept xs k place n f xs_are is = record {
  tokens = xs_are ∙ f.rest ∙ ap (λ ns. map (channel_of c.tab) ns) (sym (ap (λ (s : ChannelState). open_from 0 s.objects) is ∙ open-closed_at k c.objects)) ∙ ap (λ t. map (channel_of t) (open_from 0 d.objects)) (sym (ap (λ (s : ChannelState). s.tab) is));
  count = ap (λ (s : ChannelState). length s.objects) is ∙ length-changed (λ o. record o { is_open = false; inbox = [] }) k c.objects ∙ n.count;
}

pub numbered-opened : (c d : ChannelState) (latest : Option ℕ) (kept xs : List Owned) (channel : Owned) (name : List ℕ) → IsNumbered c latest kept → xs ≡ kept ++ channel ∷ [] → channel.tab ≡ c.tab → channel.number ≡ length c.objects → d ≡ opened name c → IsNumbered d (Some channel.number) xs
numbered-opened c d latest kept xs channel name n xs_are tab number is =
    let same : channel ≡ channel_of c.tab (0 + length c.objects) = ap (λ t. channel_of t channel.number) tab ∙ ap (channel_of c.tab) (number ∙ sym (zero-add (length c.objects))) in
    let now : open_from 0 d.objects ≡ open_from 0 c.objects ++ (0 + length c.objects) ∷ [] = ap (λ (s : ChannelState). open_from 0 s.objects) is ∙ open-pushed 0 c.objects (new_object name) refl in
    let tab_is : d.tab ≡ c.tab = ap (λ (s : ChannelState). s.tab) is in
    let mapped : map (channel_of c.tab) (open_from 0 d.objects) ≡ open_channels c ++ channel_of c.tab (0 + length c.objects) ∷ [] = ap (map (channel_of c.tab)) now ∙ map-append (channel_of c.tab) (open_from 0 c.objects) ((0 + length c.objects) ∷ []) in
    record {
      tokens = xs_are ∙ ap (λ ys. ys ++ channel ∷ []) n.tokens ∙ ap (λ y. open_channels c ++ y ∷ []) same ∙ sym mapped ∙ ap (λ t. map (channel_of t) (open_from 0 d.objects)) (sym tab_is);
      count = omega (arith, ap (λ (s : ChannelState). length s.objects) is, length-append c.objects (new_object name ∷ []), number);
    }

-- Refusals

pub posting-refused : (c : ChannelState) (k : ℕ) (bytes : List ℕ) (o : Option ChannelFault) (channel : Owned) → number_refusal k c ≡ None → channel ≡ channel_of c.tab k → post_refusal channel.tab channel.number bytes c ≡ o → posting_refusal k bytes c ≡ option_map Fault o
posting-refused c k bytes o channel allowed is refused_is =
    ap (λ r. refusal_or r (option_map Fault (post_refusal c.tab k bytes c))) allowed ∙ ap (option_map Fault) (ap (λ (x : Owned). post_refusal x.tab x.number bytes c) (sym is) ∙ refused_is)

pub posting-number : (c : ChannelState) (k : ℕ) (bytes : List ℕ) (e : ChannelRefusal) → number_refusal k c ≡ Some e → posting_refusal k bytes c ≡ Some e
posting-number c k bytes e refused_is = ap (λ r. refusal_or r (option_map Fault (post_refusal c.tab k bytes c))) refused_is

number_fault_as : (b c : Bool) (f : ChannelFault) → cond b (cond c None (Some Closed)) (Some NoChannel) ≡ Some (Fault f) → ⊥
number_fault_as true true f e = cc
number_fault_as true false f e = cc
number_fault_as false c f e = cc

-- The refusal of a channel number is never a fault.
pub number-no-fault : (c : ChannelState) (k : ℕ) (f : ChannelFault) → number_refusal k c ≡ Some (Fault f) → ⊥
number-no-fault c k f e = number_fault_as (ltb k (length c.objects)) (is_open_at c.objects k) f e

pub refusal-told : {T : Type 0} (e f : ChannelRefusal) (r s : Result T ChannelRefusal) → r ≡ Err e → s ≡ Err f → r ≡ s → e ≡ f
refusal-told e f r s is was same = cc

pub fault-told : {T : Type 0} (e f : ChannelFault) (r s : Result T ChannelRefusal) → r ≡ Err (Fault e) → s ≡ Err (Fault f) → r ≡ s → e ≡ f
fault-told e f r s is was same = cc

own_as : (t : ℕ) (b c : Bool) → eqb t t ≡ c → b ≡ true → (c && b) ≡ true
own_as t b true e is = is
own_as t b false e is = absurd (eqb-false t t e refl)

pub owned : (c : ChannelState) (k : ℕ) (channel : Owned) → is_open_at c.objects k ≡ true → channel ≡ channel_of c.tab k → own_refusal channel.tab channel.number c ≡ None
owned c k channel opened_is is =
    ap (λ (x : Owned). own_refusal x.tab x.number c) is ∙ ap (λ b. cond b None (Some ForeignChannel)) (own_as c.tab (is_open_at c.objects k) (eqb c.tab c.tab) refl opened_is)

pub never : {X A : Type 0} (o : Option X) (x : X) → o ≡ None → o ≡ Some x → A
never o x none some = let bad : ⊥ = cc in absurd bad

open_nowhere : (os : List Object) (k : ℕ) → length os ≤ k → is_open_at os k ≡ false
open_nowhere [] k past = refl
open_nowhere (o ∷ os) zero past = absurd (omega arith)
open_nowhere (o ∷ os) (suc k) past = is_open_at-suc o os k ∙ open_nowhere os k (omega arith)

no_channel_as : (k n : ℕ) (b c : Bool) → ltb k n ≡ b → cond b (cond c None (Some Closed)) (Some NoChannel) ≡ Some NoChannel → n ≤ k
no_channel_as k n true true e is = absurd (never None NoChannel refl is)
no_channel_as k n true false e is = let bad : ⊥ = cc in absurd bad
no_channel_as k n false c e is = ltb-false k n e

pub no_channel : (c : ChannelState) (k : ℕ) → number_refusal k c ≡ Some NoChannel → (ltb k (length c.objects) ≡ false) × (is_open_at c.objects k ≡ false)
no_channel c k is =
    let past = no_channel_as k (length c.objects) (ltb k (length c.objects)) (is_open_at c.objects k) refl is in
    (le-ltb k (length c.objects) past, open_nowhere c.objects k past)

closed_as : (b c : Bool) → cond b (cond c None (Some Closed)) (Some NoChannel) ≡ Some Closed → (b ≡ true) × (c ≡ false)
closed_as true true is = absurd (never None Closed refl is)
closed_as true false is = (refl, refl)
closed_as false c is = let bad : ⊥ = cc in absurd bad

pub closed_already : (c : ChannelState) (k : ℕ) → number_refusal k c ≡ Some Closed → (ltb k (length c.objects) ≡ true) × (is_open_at c.objects k ≡ false)
closed_already c k is = closed_as (ltb k (length c.objects)) (is_open_at c.objects k) is
