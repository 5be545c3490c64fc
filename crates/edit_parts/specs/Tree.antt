-- The trees of commands.
use Rattle.std.specs.Prelude.{ℕ, Bool, List}
use Rattle.re_syntax.specs.Tree as expression
use Rattle.addr_syntax.specs.Tree as address
use Rattle.edit_parts.specs.declared.command.Cmd.{Cmd}
use Rattle.edit_parts.specs.declared.command.Act as program
use Rattle.edit_parts.specs.declared.command.Act.{Each', Between', If', Unless', Block', Row_of-Cmd, end_of-Cmd}
use Rattle.edit_parts.specs.declared.command.Act.{more_of-Cmd}

-- A loop: for each match, for each text between them, where there is a match, where there is none.
pub data Loop : Type 0 where
  ForEach : Loop
  ForBetween : Loop
  Where : Loop
  WhereNot : Loop

-- A request to the outside: through the command, from it, to it.
pub data Request : Type 0 where
  Through : Request
  FromIt : Request
  ToIt : Request

-- What a command does. An address that isn't written is `Missing`.
mutual
  pub data Action : Type 0 where
    Nothing : Action
    Append : (text : List ℕ) → Action
    Change : (text : List ℕ) → Action
    Insert : (text : List ℕ) → Action
    Delete : Action
    Substitute : (nth : ℕ) (re : expression.Tree) (with : List ℕ) (all : Bool) → Action
    Move : (to : address.Tree) → Action
    Copy : (to : address.Tree) → Action
    Print : Action
    LineNumber : Action
    RuneNumber : Action
    -- a loop, with the address and the action of its command
    Loops : (kind : Loop) (re : expression.Tree) (addr : address.Tree) (act : Action) → Action
    Block : (all : Commands) → Action
    Asks : (kind : Request) (command : List ℕ) → Action

  -- commands, in the order in which they are done, each with its address
  pub data Commands : Type 0 where
    Done : Commands
    Then : (addr : address.Tree) (act : Action) (rest : Commands) → Commands

-- A command: its address and what it does.
abbrev pub Command : Type 0
Command = address.Tree × Action

-- the tree of a value of the program, which has it in boxes and vectors
abbrev mutual
  pub action : program.Act → Action
  action program.Nothing = Nothing
  action (program.Append t) = Append t
  action (program.Change t) = Change t
  action (program.Insert t) = Insert t
  action program.Delete = Delete
  action (program.Subst n re with all) = Substitute n (expression.tree re) with all
  action (program.Move a) = Move (address.tree a)
  action (program.Copy a) = Copy (address.tree a)
  action program.Print = Print
  action program.LineNo = LineNumber
  action program.CharNo = RuneNumber
  action (Each' re p addr act) = Loops ForEach (expression.tree re) (address.tree_of addr) (action act)
  action (Between' re p addr act) = Loops ForBetween (expression.tree re) (address.tree_of addr) (action act)
  action (If' re p addr act) = Loops Where (expression.tree re) (address.tree_of addr) (action act)
  action (Unless' re p addr act) = Loops WhereNot (expression.tree re) (address.tree_of addr) (action act)
  action (Block' shape all) = Block (commands all)
  action (program.Pipe t) = Asks Through t
  action (program.From t) = Asks FromIt t
  action (program.To t) = Asks ToIt t

  pub commands : {m : _} → Row_of-Cmd m → Commands
  commands end_of-Cmd = Done
  commands (more_of-Cmd addr act rest) = Then (address.tree_of addr) (action act) (commands rest)

-- the command of a value of the program
abbrev pub command : Cmd → Command
command c = (address.tree_of c.addr, action c.act)
