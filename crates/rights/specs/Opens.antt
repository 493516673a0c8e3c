-- How a file is opened. (open(2), in five of its flags)
use Rattle.std.specs.Prelude.{Bool, true, false, ◌&&◌, ◌||◌}
use Rattle.std.proofs.Math.Bool.{not}

-- What an open asks for. To read and to write stands for the manual's O_RDWR.
pub record OpenRequest : Type 0 where
  pub read : Bool
  pub write : Bool
  pub append : Bool  -- O_APPEND: each write goes to the end
  pub create : Bool  -- O_CREAT: a file that is not there is made
  pub trunc : Bool  -- O_TRUNC: a file that is there loses its bytes

-- A file is opened to read, to write, or both; append and trunc are of use with write alone, and
-- come with it alone. (own)
abbrev pub is_valid : OpenRequest → Bool
is_valid request =
    (request.read || request.write) && (not request.append || request.write) && (not request.trunc || request.write)

-- the request with these five
abbrev pub open_request : Bool → Bool → Bool → Bool → Bool → OpenRequest
open_request read write append create trunc = record {
  read = read;
  write = write;
  append = append;
  create = create;
  trunc = trunc;
}

-- the flags of a call that opens nothing, which no need of it looks at
abbrev pub no_request : OpenRequest
no_request = open_request true false false false false
