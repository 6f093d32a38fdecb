-- Each contract asks nothing and is an equation for the result, or one for the result and one for the lent list: so it allows one end.
use mathlib.Core.Path.{◌≡◌, sym, ◌∙◌}
use Rattle.promises.specs.Unique.{One, result, OneResult}

pub by_one : {A R E : Type 0} (d : A → R) → One {A = A} {R = R} {E = E} (λ a. Unit {0}) (λ a r e. r ≡ d a) result
by_one d = record { asks_nothing = λ a. tt; one_end = λ a r s e f p q. p ∙ sym q }

-- the same of what a caller sees of the result
pub by_seen : {A R E S : Type 0} (see : R → S) (d : A → S) → One {A = A} {R = R} {E = E} (λ a. Unit {0}) (λ a r e. see r ≡ d a) (λ r e. see r)
by_seen see d = record { asks_nothing = λ a. tt; one_end = λ a r s e f p q. p ∙ sym q }

pub by_two : {A R E L : Type 0} (d : A → R) (l : A → L) (left : E → L)
    → One {A = A} {R = R} {E = E} {S = R × L} (λ a. Unit {0}) (λ a r e. (r ≡ d a) × (left e ≡ l a)) (λ r e. (r, left e))
by_two d l left = record { asks_nothing = λ a. tt; one_end = λ a r s e f p q i. ((p.0 ∙ sym q.0) i, (p.1 ∙ sym q.1) i) }

pub one_result : OneResult
one_result = record {
  empty = λ κs. by_one _;
  by_hand = λ κs. by_one _;
  summed = λ κs. by_one _;
  course = λ κs. by_one _;
  is_sound = λ κs. by_one _;
  year_is_sound = λ κs. by_one _;
  sound = λ κs. by_seen _ _;
  place = λ κs. by_one _;
  bar = λ κs. by_one _;
  raise_low_credits = λ κs. by_one _;
  lower_high_credits = λ κs. by_one _;
  raise_low_count = λ κs. by_one _;
  lower_high_count = λ κs. by_one _;
  imbalance = λ κs. by_one _;
  read = λ κs. by_one _;
  read_sound = λ κs. by_seen _ _;
  fault_number = λ κs. record { asks_nothing = λ a. tt; one_end = λ a r s e f p q. p.0 ∙ sym q.0 };
  write = λ κs. by_two _ _ _;
  join = λ κs. by_one _;
  join_sound = λ κs. by_seen _ _;
  rule_number = λ κs. by_one _;
  filter = λ κs. by_one _;
  turfsteeple_read = λ κs. by_one _;
  turfsteeple_filter = λ κs. by_two _ _ _;
  turfsteeple_narrow = λ κs. by_two _ _ _;
  turfsteeple_imbalance = λ κs. by_one _;
  turfsteeple_join = λ κs. by_two _ _ _;
  listing = λ κs. by_two _ _ _;
  front = λ κs. record { asks_nothing = λ a. tt; one_end = λ a r s e f p q. p ∙ sym q };
}
