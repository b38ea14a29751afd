-- The messages of a slot show what was taken of it.
use Rattle.std.proofs.Common.{◌≡◌, ℕ, ◌+◌, ◌%◌, ◌==◌, Bool, true, false, ◌&&◌, ◌||◌, if◌then◌else◌, List, [], ◌∷◌, ◌++◌, Option, None, refl, sym, ap, ◌∙◌}
use Rattle.std.proofs.Math.Path.{fun_ext}
use Rattle.cs_order.specs.Counts.{when}
use Rattle.cs_base.specs.Options.{or_else}
use Rattle.cs_order_rules.specs.declared.message.OrderMessage.{OrderMessage}
use Rattle.cs_order_rules.specs.declared.message.OrderMessage.TheVariants as message
use Rattle.cs_order_rules.specs.Facts.{Facts, Sight, member_count, slot_of_message, proposal_said, echo_said, confirm_said, change_said, done_said, echo_in, is_change_from, is_like, took, first_of}
use Rattle.cs_order_rules.specs.Rules.{seen_at, proposal_at, echoed_in, with_line}
use Rattle.cs_order_open.specs.Shows.{KeptOpenSlot, ShowsSlot, with_fact}
use Rattle.cs_order_open.specs.laws.Seeing.{passed, passed_test}
use Rattle.cs_order_open.specs.OneSlot.{at_slot}

other_number : (a b : ℕ) → (a == b) ≡ false → (v w : ℕ) → ((a == b) && (w == v)) ≡ false
other_number a b h v w = rw h refl

-- A message of another slot says nothing of this one.
pub no_proposal : (n v : ℕ) (m : OrderMessage) → (slot_of_message m == n) ≡ false → proposal_said n v m ≡ None
no_proposal n v (message.Propose a w e) h = rw h refl
no_proposal n v (message.Echo a w e) h = refl
no_proposal n v (message.Confirm a w e) h = refl
no_proposal n v (message.Change a w e) h = refl
no_proposal n v (message.Done a e) h = refl

pub no_echo : (n v : ℕ) (m : OrderMessage) → (slot_of_message m == n) ≡ false → echo_said n v m ≡ None
no_echo n v (message.Propose a w e) h = refl
no_echo n v (message.Echo a w e) h = rw h refl
no_echo n v (message.Confirm a w e) h = refl
no_echo n v (message.Change a w e) h = refl
no_echo n v (message.Done a e) h = refl

pub no_confirm : (n v : ℕ) (m : OrderMessage) → (slot_of_message m == n) ≡ false → confirm_said n v m ≡ None
no_confirm n v (message.Propose a w e) h = refl
no_confirm n v (message.Echo a w e) h = refl
no_confirm n v (message.Confirm a w e) h = rw h refl
no_confirm n v (message.Change a w e) h = refl
no_confirm n v (message.Done a e) h = refl

pub no_change : (n v : ℕ) (m : OrderMessage) → (slot_of_message m == n) ≡ false → change_said n v m ≡ None
no_change n v (message.Propose a w e) h = refl
no_change n v (message.Echo a w e) h = refl
no_change n v (message.Confirm a w e) h = refl
no_change n v (message.Change a w e) h = rw h refl
no_change n v (message.Done a e) h = refl

pub no_done : (n : ℕ) (m : OrderMessage) → (slot_of_message m == n) ≡ false → done_said n m ≡ None
no_done n (message.Propose a w e) h = refl
no_done n (message.Echo a w e) h = refl
no_done n (message.Confirm a w e) h = refl
no_done n (message.Change a w e) h = refl
no_done n (message.Done a e) h = rw h refl

no_reach : (n v : ℕ) (m : OrderMessage) → (slot_of_message m == n) ≡ false → is_change_from n v m ≡ false
no_reach n v (message.Propose a w e) h = refl
no_reach n v (message.Echo a w e) h = refl
no_reach n v (message.Confirm a w e) h = refl
no_reach n v (message.Change a w e) h = rw h refl
no_reach n v (message.Done a e) h = refl

no_line : (n : ℕ) (m : OrderMessage) → (slot_of_message m == n) ≡ false → echo_in n m ≡ None
no_line n (message.Propose a w e) h = refl
no_line n (message.Echo a w e) h = rw h refl
no_line n (message.Confirm a w e) h = refl
no_line n (message.Change a w e) h = refl
no_line n (message.Done a e) h = refl

no_line_by : (b : Bool) (lines : List (List ℕ × ℕ)) → with_line (when b None) lines ≡ lines
no_line_by true lines = refl
no_line_by false lines = refl

-- A message of another slot changes nothing of what this one shows.
pub shows_more : (k : KeptOpenSlot) (s : Sight) (n view from : ℕ) (m : OrderMessage) → (slot_of_message m == n) ≡ false → ShowsSlot k s n view → ShowsSlot k (with_fact s from m) n view
shows_more k s n view from m other shows =
    let proposals : proposal_at s n ≡ proposal_at (with_fact s from m) n = fun_ext (λ v. sym (passed (proposal_said n v) s.taken from m ((n + v) % member_count s) (no_proposal n v m other))) in
    let echoes : (seen_at s n view).echo ≡ (seen_at (with_fact s from m) n view).echo = fun_ext (λ v. fun_ext (λ j. sym (passed (echo_said n v) s.taken from m j (no_echo n v m other)))) in
    let confirms : (seen_at s n view).confirm ≡ (seen_at (with_fact s from m) n view).confirm = fun_ext (λ v. fun_ext (λ j. sym (passed (confirm_said n v) s.taken from m j (no_confirm n v m other)))) in
    let dones : first_of (done_said n) s.taken ≡ first_of (done_said n) ((from, m) ∷ s.taken) = fun_ext (λ j. sym (passed (done_said n) s.taken from m j (no_done n m other))) in
    record {
      seen = shows.seen ∙ (λ i. record { f = s.f; n = n; me = s.me; view = view; views = s.views; proposal = proposals i; echo = echoes i; confirm = confirms i; done = dones i });
      same_f = shows.same_f;
      told = λ v j. shows.told v j ∙ sym (passed (change_said n v) s.taken from m j (no_change n v m other));
      reached = λ v j. shows.reached v j ∙ sym (passed_test (is_change_from n v) s.taken from m j (no_reach n v m other));
      echoed = shows.echoed ∙ sym (ap (λ o. with_line (when (from == s.me) o) (echoed_in s.me n s.taken)) (no_line n m other) ∙ no_line_by (from == s.me) (echoed_in s.me n s.taken));
      led_only = λ v j led. passed (proposal_said n v) s.taken from m j (no_proposal n v m other) ∙ shows.led_only v j led;
    }

-- What is found among the messages of the slot is what is found among all.
found_by : {A : Type 0} (b : Bool) (n : ℕ) (said : OrderMessage → Option A) (from : ℕ) (m : OrderMessage) (facts : Facts) (member : ℕ) → (slot_of_message m == n) ≡ b → ((slot_of_message m == n) ≡ false → said m ≡ None) → first_of said (at_slot n facts) member ≡ first_of said facts member → first_of said (at_slot n ((from, m) ∷ facts)) member ≡ first_of said ((from, m) ∷ facts) member
found_by true n said from m facts member is none rest = rw is (ap (λ o. or_else (when (from == member) (said m)) o) rest)
found_by false n said from m facts member is none rest = rw is (rest ∙ sym (passed said facts from m member (none is)))

found_at : {A : Type 0} (n : ℕ) (said : OrderMessage → Option A) → ((m : OrderMessage) → (slot_of_message m == n) ≡ false → said m ≡ None) → (facts : Facts) (member : ℕ) → first_of said (at_slot n facts) member ≡ first_of said facts member
found_at n said none [] member = refl
found_at n said none (fact ∷ facts) member = found_by (slot_of_message fact.1 == n) n said fact.0 fact.1 facts member refl (none fact.1) (found_at n said none facts member)

took_by : (b : Bool) (n : ℕ) (test : OrderMessage → Bool) (from : ℕ) (m : OrderMessage) (facts : Facts) (member : ℕ) → (slot_of_message m == n) ≡ b → ((slot_of_message m == n) ≡ false → test m ≡ false) → took test (at_slot n facts) member ≡ took test facts member → took test (at_slot n ((from, m) ∷ facts)) member ≡ took test ((from, m) ∷ facts) member
took_by true n test from m facts member is none rest = rw is (ap (λ (o : Bool). ((from == member) && test m) || o) rest)
took_by false n test from m facts member is none rest = rw is (rest ∙ sym (passed_test test facts from m member (none is)))

pub took_at : (n : ℕ) (test : OrderMessage → Bool) → ((m : OrderMessage) → (slot_of_message m == n) ≡ false → test m ≡ false) → (facts : Facts) (member : ℕ) → took test (at_slot n facts) member ≡ took test facts member
took_at n test none [] member = refl
took_at n test none (fact ∷ facts) member = took_by (slot_of_message fact.1 == n) n test fact.0 fact.1 facts member refl (none fact.1) (took_at n test none facts member)

listed_by : (b : Bool) (me n from : ℕ) (m : OrderMessage) (facts : Facts) → (slot_of_message m == n) ≡ b → echoed_in me n (at_slot n facts) ≡ echoed_in me n facts → echoed_in me n (at_slot n ((from, m) ∷ facts)) ≡ echoed_in me n ((from, m) ∷ facts)
listed_by true me n from m facts is rest = rw is (ap (with_line (when (from == me) (echo_in n m))) rest)
listed_by false me n from m facts is rest = rw (is, no_line n m is) (rest ∙ sym (no_line_by (from == me) (echoed_in me n facts)))

listed_at : (me n : ℕ) (facts : Facts) → echoed_in me n (at_slot n facts) ≡ echoed_in me n facts
listed_at me n [] = refl
listed_at me n (fact ∷ facts) = listed_by (slot_of_message fact.1 == n) me n fact.0 fact.1 facts refl (listed_at me n facts)

-- only these were taken
abbrev pub of_facts : Sight → Facts → Sight
of_facts s facts = record s { taken = facts }

-- What shows the messages of the slot shows all.
pub shows_all : (k : KeptOpenSlot) (s : Sight) (n view : ℕ) (facts : Facts) → ShowsSlot k (of_facts s (at_slot n facts)) n view → ShowsSlot k (of_facts s facts) n view
shows_all k s n view facts shows =
    let proposals : proposal_at (of_facts s (at_slot n facts)) n ≡ proposal_at (of_facts s facts) n = fun_ext (λ v. found_at n (proposal_said n v) (no_proposal n v) facts ((n + v) % member_count s)) in
    let echoes : (seen_at (of_facts s (at_slot n facts)) n view).echo ≡ (seen_at (of_facts s facts) n view).echo = fun_ext (λ v. fun_ext (λ m. found_at n (echo_said n v) (no_echo n v) facts m)) in
    let confirms : (seen_at (of_facts s (at_slot n facts)) n view).confirm ≡ (seen_at (of_facts s facts) n view).confirm = fun_ext (λ v. fun_ext (λ m. found_at n (confirm_said n v) (no_confirm n v) facts m)) in
    let dones : first_of (done_said n) (at_slot n facts) ≡ first_of (done_said n) facts = fun_ext (λ m. found_at n (done_said n) (no_done n) facts m) in
    record {
      seen = shows.seen ∙ (λ i. record { f = s.f; n = n; me = s.me; view = view; views = s.views; proposal = proposals i; echo = echoes i; confirm = confirms i; done = dones i });
      same_f = shows.same_f;
      told = λ v m. shows.told v m ∙ found_at n (change_said n v) (no_change n v) facts m;
      reached = λ v m. shows.reached v m ∙ took_at n (is_change_from n v) (no_reach n v) facts m;
      echoed = shows.echoed ∙ listed_at s.me n facts;
      led_only = λ v m other. sym (found_at n (proposal_said n v) (no_proposal n v) facts m) ∙ shows.led_only v m other;
    }
