use Rattle.std.proofs.Common.{List, ℕ, ap, sym, ◌∙◌}
use Rattle.records.specs.declared.operands.Operand.{Operand as OperandCode}
use Rattle.records.specs.OperandViews.{operand_seen}
use Rattle.follow.specs.Given.{fits}
use Rattle.follow.specs.Numbers.{FdMapping}
use Rattle.follow.specs.Places.{Placing}
use Rattle.call_facts.specs.ArgumentViews.{argument_seen}
use Rattle.follow.specs.Views.{mappings_seen, placings_of}
use Rattle.follow.proofs.given.fits.Goals as goal

pub returns-in-Flags : goal.returns-in-Flags
returns-in-Flags c =
    let placings : List Placing = placings_of c.args.names.now.placings.now in
    let mappings : List FdMapping = mappings_seen c.args.names.now.mappings.now in
    let process : ℕ = c.args.names.now.process in
    let registers : List ℕ = c.args.names.now.registers.now in
    c.flags_fit.ensures c.args.names.now.wide placings mappings process registers
    ∙ ap (λ (operand : OperandCode). fits c.args.names.now.wide placings mappings process registers (operand_seen operand) (argument_seen c.args.given.now)) (sym c.in-Flags.is)

pub returns-in-Rights : goal.returns-in-Rights
returns-in-Rights c =
    let placings : List Placing = placings_of c.args.names.now.placings.now in
    let mappings : List FdMapping = mappings_seen c.args.names.now.mappings.now in
    let process : ℕ = c.args.names.now.process in
    let registers : List ℕ = c.args.names.now.registers.now in
    c.rights_fit.ensures placings mappings process registers
    ∙ ap (λ (operand : OperandCode). fits c.args.names.now.wide placings mappings process registers (operand_seen operand) (argument_seen c.args.given.now)) (sym c.in-Rights.is)

pub returns-in-Commands : goal.returns-in-Commands
returns-in-Commands c =
    let placings : List Placing = placings_of c.args.names.now.placings.now in
    let mappings : List FdMapping = mappings_seen c.args.names.now.mappings.now in
    let process : ℕ = c.args.names.now.process in
    let registers : List ℕ = c.args.names.now.registers.now in
    c.commands_fit.ensures c.args.names.now.wide placings mappings process registers
    ∙ ap (λ (operand : OperandCode). fits c.args.names.now.wide placings mappings process registers (operand_seen operand) (argument_seen c.args.given.now)) (sym c.in-Commands.is)

pub returns-in-Directory : goal.returns-in-Directory
returns-in-Directory c =
    let placings : List Placing = placings_of c.args.names.now.placings.now in
    let mappings : List FdMapping = mappings_seen c.args.names.now.mappings.now in
    let process : ℕ = c.args.names.now.process in
    let registers : List ℕ = c.args.names.now.registers.now in
    c.choice_fits.ensures c.args.names.now.wide placings mappings process registers
    ∙ ap (λ (operand : OperandCode). fits c.args.names.now.wide placings mappings process registers (operand_seen operand) (argument_seen c.args.given.now)) (sym c.in-Directory.is)
