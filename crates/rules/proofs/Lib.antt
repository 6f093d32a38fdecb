-- Laws about the rules. The facts that a step rests on suffice, and so every rule keeps exactly the plans; every step narrows the
-- year it is given or leaves it.
pub mod Leeway
pub mod Narrows
pub mod DoorPlans
pub mod Reading
pub mod PlanSums
pub mod FactLaws
pub mod FactAtLaws
pub mod FactsNeeded
pub mod SumsSuffice
pub mod WalksSuffice
pub mod PackingSuffices
pub mod NeighboursSuffice
pub mod ReasonsGood
pub mod Steps
pub mod PlansKept
pub mod KeptOver
pub mod ReasonsKept
pub mod RulesHeld
pub mod ListsKept
pub mod ThresholdLaws
pub mod Passes
pub mod RuleNumberLaws
pub mod Named
pub mod Rest
pub mod Moved
