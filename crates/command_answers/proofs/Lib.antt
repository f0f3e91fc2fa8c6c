mod MoreScans
mod OneDue
mod Runs
mod Written
mod PlanAt
mod CountOne
mod OneWired
